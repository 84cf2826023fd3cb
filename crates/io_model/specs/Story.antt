-- What a disk was asked since it was opened, what a read of it gives, and what a crash may leave.
use Rattle.std.specs.Prelude.{◌≡◌, ℕ, ◌+◌, ◌≤◌, min, max, List, [], ◌∷◌, ◌++◌, length, take, drop}

-- A call of a disk. A write or cut that fails also says what a read gives afterwards.
pub data Call : Type 0 where
  Len : Call
  Read : (at count : ℕ) → Call
  Write : (at : ℕ) (bytes : List ℕ) → Call
  Cut : (len : ℕ) → Call
  Sync : Call
  Write_failed : (at count : ℕ) (left : List ℕ) → Call
  Cut_failed : (len : ℕ) (left : List ℕ) → Call
  Sync_failed : Call

-- the bytes that were on the disk when it was opened, and the calls since, the newest first
pub record Story : Type 0 where
  pub start : List ℕ
  pub calls : List Call

-- one call more
abbrev pub after : Call → Story → Story
after call s = record { start = s.start; calls = call ∷ s.calls }

-- old with these bytes at this place
abbrev pub put : List ℕ → ℕ → List ℕ → List ℕ
put old at bytes = take at old ++ bytes ++ drop (at + length bytes) old

abbrev pub reads_after : List ℕ → List Call → List ℕ
reads_after start [] = start
reads_after start (Len ∷ calls) = reads_after start calls
reads_after start (Read at count ∷ calls) = reads_after start calls
reads_after start (Write at bytes ∷ calls) = put (reads_after start calls) at bytes
reads_after start (Cut len ∷ calls) = take len (reads_after start calls)
reads_after start (Sync ∷ calls) = reads_after start calls
reads_after start (Write_failed at count left ∷ calls) = left
reads_after start (Cut_failed len left ∷ calls) = left
reads_after start (Sync_failed ∷ calls) = reads_after start calls

-- what a read gives
abbrev pub reads : Story → List ℕ
reads s = reads_after s.start s.calls

-- new is old with any bytes in this range, and any length between where the range passes the end
pub record IsTorn (at count : ℕ) (old new : List ℕ) : Type 0 where
  pub before : take (min at (length old)) new ≡ take at old
  pub behind : drop (at + count) new ≡ drop (at + count) old
  pub no_shorter : length old ≤ length new
  pub no_longer : length new ≤ max (length old) (at + count)

-- new is a front of old, this long or longer
pub record IsCut (len : ℕ) (old new : List ℕ) : Type 0 where
  pub no_shorter : min len (length old) ≤ length new
  pub front : take (length new) old ≡ new

abbrev pub IsImageAfter : List ℕ → List Call → List ℕ → Type 0
IsImageAfter start [] image = image ≡ start
IsImageAfter start (Len ∷ calls) image = IsImageAfter start calls image
IsImageAfter start (Read at count ∷ calls) image = IsImageAfter start calls image
IsImageAfter start (Write at bytes ∷ calls) image = (older : List ℕ) × IsImageAfter start calls older × IsTorn at (length bytes) older image
IsImageAfter start (Cut len ∷ calls) image = (older : List ℕ) × IsImageAfter start calls older × IsCut len older image
IsImageAfter start (Sync ∷ calls) image = image ≡ reads_after start calls
IsImageAfter start (Write_failed at count left ∷ calls) image = (older : List ℕ) × IsImageAfter start calls older × IsTorn at count older image
IsImageAfter start (Cut_failed len left ∷ calls) image = (older : List ℕ) × IsImageAfter start calls older × IsCut len older image
IsImageAfter start (Sync_failed ∷ calls) image = IsImageAfter start calls image

-- What a crash now may leave. Between two syncs that succeed each range that was written may hold any bytes, and
-- what was cut off may still be there; after a sync it is what a read gives. A crash during a call leaves an image
-- from before the call or one from after it.
abbrev pub IsImage : Story → List ℕ → Type 0
IsImage s image = IsImageAfter s.start s.calls image
