-- What the calls of a disk answer, and how they go on with its story. A disk may tell its story or not.
use Rattle.std.specs.Prelude.{◌≡◌, ◌⊎◌, ℕ, ◌+◌, ◌-◌, ◌≤◌, ◌^◌, min, List, length, take, drop, Option, Some, None, Result, Ok, Err, OnOk, OnErr}
use Rattle.io_model.specs.Story.{Call, Len, Read, Write, Cut, Sync, Write_failed, Cut_failed, Sync_failed, Story, after, reads, IsTorn, IsCut}

-- What tells its story, as a disk or both sides of a shard, goes on telling it, by R; what doesn't, doesn't.
abbrev pub Tells : {S : Type 0} → Option S → Option S → (S → S → Type 0) → Type 0
Tells None new R = new ≡ None
Tells {S} (Some old) new R = (now : S) × (new ≡ Some now) × R old now

-- the call was noted, or it left no trace
abbrev pub MayNote : Call → Story → Story → Type 0
MayNote call old now = (now ≡ old) ⊎ (now ≡ after call old)

abbrev pub Measures : {E : Type 0} → Result ℕ E → Story → Story → Type 0
Measures (Ok len) old now = (now ≡ after Len old) × (len ≡ length (reads old))
Measures (Err e) old now = MayNote Len old now

abbrev pub Reads : {A E : Type 0} → ℕ → List ℕ → Result A E → Story → Story → Type 0
Reads at got (Ok a) old now = (now ≡ after (Read at (length got)) old) × (got ≡ take (length got) (drop at (reads old)))
Reads at got (Err e) old now = MayNote (Read at (length got)) old now

abbrev pub Writes : {A E : Type 0} → ℕ → List ℕ → Result A E → Story → Story → Type 0
Writes at bytes (Ok a) old now = now ≡ after (Write at bytes) old
Writes at bytes (Err e) old now = (now ≡ old) ⊎ ((left : List ℕ) × IsTorn at (length bytes) (reads old) left × (now ≡ after (Write_failed at (length bytes) left) old))

abbrev pub Cuts : {A E : Type 0} → ℕ → Result A E → Story → Story → Type 0
Cuts len (Ok a) old now = now ≡ after (Cut len) old
Cuts len (Err e) old now = (now ≡ old) ⊎ ((left : List ℕ) × IsCut len (reads old) left × (now ≡ after (Cut_failed len left) old))

abbrev pub Syncs : {A E : Type 0} → Result A E → Story → Story → Type 0
Syncs (Ok a) old now = now ≡ after Sync old
Syncs (Err e) old now = MayNote Sync_failed old now

-- a count of faults went up, or stands at its end
abbrev pub Rose : ℕ → ℕ → Type 0
Rose before now = min (before + 1) (2 ^ 64 - 1) ≤ now

-- an error is answered only where the count rose, and else the count stands
pub record HasCause {A E : Type 0} (before now : ℕ) (result : Result A E) : Type 0 where
  pub later : before ≤ now
  pub failed : OnErr result (Rose before now)
  pub fine : OnOk result (now ≡ before)

-- a count that comes back is added
pub record Adds (before count now : ℕ) : Type 0 where
  pub none : count ≡ 0 → now ≡ before
  pub some : 1 ≤ count → Rose before now
  pub later : before ≤ now
