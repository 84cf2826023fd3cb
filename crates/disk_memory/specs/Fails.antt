-- Which calls of a disk in memory fail, and which it keeps in its list.
use Rattle.std.specs.Prelude.{◌≡◌, ◌+◌, ◌*◌, ◌^◌, ◌-◌, ℕ, List, [], ◌∷◌, length, min, Bool, nat_lt, nat_le, ◌&&◌, ◌||◌, ◌==◌, if◌then◌else◌}
use Rattle.std.specs.List.{list_any}
use Rattle.io_model.specs.Story.{Call, Len, Read, Write, Cut, Sync, Write_failed, Cut_failed, Sync_failed, Story, after, reads}

-- what is seen of a disk in memory: its story, its faults, the calls that were made, those that are told to fail, and its room
pub record DiskState : Type 0 where
  pub story : Story
  pub faults : ℕ
  pub made : ℕ
  pub failing : List ℕ
  pub last : ℕ
  pub room : ℕ

-- the bytes of all writes, those that failed aside
abbrev pub bytes_written : List Call → ℕ
bytes_written [] = 0
bytes_written (Len ∷ calls) = bytes_written calls
bytes_written (Read at count ∷ calls) = bytes_written calls
bytes_written (Write at bytes ∷ calls) = length bytes + bytes_written calls
bytes_written (Cut len ∷ calls) = bytes_written calls
bytes_written (Sync ∷ calls) = bytes_written calls
bytes_written (Write_failed at count left ∷ calls) = bytes_written calls
bytes_written (Cut_failed len left ∷ calls) = bytes_written calls
bytes_written (Sync_failed ∷ calls) = bytes_written calls

-- the number of the next call; the count stands still at its end
abbrev pub next_number : ℕ → ℕ
next_number made = min (made + 1) (2 ^ 64 - 1)

-- whether the next call is told to fail
abbrev pub is_told : DiskState → Bool
is_told d = nat_lt d.last (next_number d.made) || list_any (λ n. n == next_number d.made) d.failing

-- whether there is room for a call that leaves this length and writes so many bytes: 24 are taken for each call in the list
abbrev pub fits : DiskState → ℕ → ℕ → Bool
fits d len more = nat_le (len + bytes_written d.story.calls + more + 24 * (length d.story.calls + 1)) d.room

-- whether there is room for a call that writes nothing
abbrev pub fits_call : DiskState → Bool
fits_call d = fits d (length (reads d.story)) 0

-- whether a write passes the greatest length
abbrev pub is_past : ℕ → Bool
is_past end = nat_lt (2 ^ 62) end

-- a call that fails as it was told is kept in the list, where there is room for it; one that fails for want of room is not
abbrev pub story_after_failing : DiskState → Bool → Call → Story
story_after_failing d told call = if told && fits_call d then after call d.story else d.story

-- the call was counted, and what is to fail stays
pub record IsCounted (old new : DiskState) : Type 0 where
  pub made : new.made ≡ next_number old.made
  pub failing : new.failing ≡ old.failing
  pub last : new.last ≡ old.last
  pub room : new.room ≡ old.room
