-- Sessions of which the first ran its first transaction alone.
use Rattle.std.specs.Prelude.{◌≡◌, ℕ, zero, suc, ◌+◌, max, ◌<◌, ◌≤◌, List, ◌++◌, take, length, slice_index_or, Option}
use Rattle.std.specs.List.{AllByRecursion}
use Rattle.clv_base.specs.Journals.{History}
use Rattle.script_lang.specs.Bodies.{Body}
use Rattle.script_runs.specs.declared.ends.StopCause.{StopCause}
use Rattle.script_runs.specs.declared.seats.Seat.{Seat}
use Rattle.script_runs.specs.Sessions.{FollowsScript}
use Rattle.script_runs.specs.Seen.{Seen, Misses}
use Rattle.script_runs.specs.Ran.{stop_in, FollowsFrom}

-- of the entries that the session made, the first ones are those of its first transaction, and have stamps up to the clock
pub record BeginsBy (clock : ℕ) (bodies : List Body) (most : Option ℕ) (u v : Seen) : Type 0 where
  pub cause : Option StopCause
  pub first : History
  pub rest : History
  pub entries_are : v.entries ≡ u.entries ++ (first ++ rest)
  pub follows : FollowsScript u.splits u.run u.walker most (take 1 bodies) cause first
  pub early : AllByRecursion (λ e. (e.1).stamp ≤ clock) first

-- those that it made have stamps past the clock
pub record BeginsPast (clock : ℕ) (u v : Seen) : Type 0 where
  pub more : History
  pub entries_are : v.entries ≡ u.entries ++ more
  pub late : AllByRecursion (λ e. clock < (e.1).stamp) more

-- the clock from which a seat's session rose: its own, if it is the first one, else up to this one
abbrev pub base_of : ℕ → ℕ → Seen → ℕ
base_of clock zero u = u.clock
base_of clock (suc k) u = max u.clock clock

-- a clock that a session came to: no further past its own, and past the stamps that it has seen, than one for each try that it began
abbrev pub IsReached : ℕ → Seen → Seen → Type 0
IsReached clock u v = clock + u.serial ≤ max u.clock v.latest + v.serial

-- what each seat's session added is that of its transactions, from its own clock, or from one that the first one came to
pub record AllFollow {S : Type 0} (seen : S → Seen) (missed : S → Misses) (most : Option ℕ) (old new : List (Seat S)) : Type 0 where
  pub clock : ℕ
  pub reached : (d : Seat S) → 0 < length old → IsReached clock (seen (slice_index_or old 0 d).session) (seen (slice_index_or new 0 d).session)
  pub each :
      (k : ℕ) (d : Seat S) → k < length old
      → FollowsFrom (base_of clock k (seen (slice_index_or old k d).session)) (missed (slice_index_or new k d).session) (slice_index_or old k d).transactions.now most (stop_in (slice_index_or new k d).ended)
      (seen (slice_index_or old k d).session) (seen (slice_index_or new k d).session)

module _ {S : Type 0} (seen : S → Seen) (most : Option ℕ) where
  -- there is a clock up to which the first transaction of the first seat made its entries, and past which all other seats made theirs
  pub record BeganAlone (old new : List (Seat S)) : Type 0 where
    pub clock : ℕ
    pub first : (d : Seat S) → 0 < length old → BeginsBy clock (slice_index_or old 0 d).transactions.now most (seen (slice_index_or old 0 d).session) (seen (slice_index_or new 0 d).session)
    pub others : (k : ℕ) (d : Seat S) → 0 < k → k < length old → BeginsPast clock (seen (slice_index_or old k d).session) (seen (slice_index_or new k d).session)
