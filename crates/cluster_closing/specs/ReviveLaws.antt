-- What a fetch, a restart and a look leave of a walker.
use Rattle.std.specs.Prelude.{ℕ, Bool, List, Option, Some, Result, Ok, Err}
use Rattle.io_model.specs.Sides.{Stories}
use Rattle.turn_lock.specs.declared.pass.Pass.{Pass}
use Rattle.machine_laws.specs.declared.notes.Note.{Note}
use Rattle.machine_laws.specs.declared.notes.Origin.{Origin}
use Rattle.cluster_turns.specs.Turns.{SettledTold}
use Rattle.cluster_turns.specs.Walkers.{Walked}
use Rattle.cluster_closing.specs.Landed.{HasLanded}
use Rattle.cluster_closing.specs.declared.fetching.FetchError.{FetchError}
use Rattle.cluster_closing.specs.declared.fetching.Fetched.{Fetched}
use Rattle.cluster_closing.specs.EndHeld.{FetchTold}
use Rattle.cluster_closing.specs.declared.error.RestartError.{RestartError}
use Rattle.cluster_closing.specs.Restarted.{RestartTold}
use Rattle.cluster_turns.specs.Births.{AreInformed}
use Rattle.cluster_closing.specs.Held.{HoldsNone, HoldsNoneBut}

-- through a fetch and a restart a property of passes and of the walker's clock stays
module _ (T D : Type 0) (P : ℕ → ℕ → List (Option (Pass T Note Origin)) → Type 0) where
  abbrev pub StaysThroughFetches : Type 0
  StaysThroughFetches = (clock w n : ℕ) (r : Result D FetchError) (before after : List (Option (Pass T Note Origin))) → Walked (FetchTold w r) n w before after → P w clock before → P w clock after

  abbrev pub StaysThroughRestarts : Type 0
  StaysThroughRestarts =
      (story : D → Option Stories) (splits : List ℕ) (run : ℕ) (f : Fetched D) (w clock : ℕ) (before : List (Option (Pass T Note Origin))) (r : Result ℕ (RestartError × Fetched D)) (clock' : ℕ) (after : List (Option (Pass T Note Origin)))
      → RestartTold story splits run f w clock before r clock' after → P w clock before → P w clock' after

-- and through a look at whether a shard is settled
module _ (T : Type 0) (P : ℕ → ℕ → List (Option (Pass T Note Origin)) → Type 0) where
  abbrev pub StaysThroughLooks : Type 0
  StaysThroughLooks = (clock w n : ℕ) (answer : Bool) (before after : List (Option (Pass T Note Origin))) → Walked (SettledTold answer) n w before after → P w clock before → P w clock after

-- the walker has the gate of no shard
abbrev pub FetchesLand : Type 0 → Type 0 → Type 0
FetchesLand T D = StaysThroughFetches T D (λ w clock passes. HasLanded w passes)

abbrev pub RestartsLand : Type 0 → Type 0 → Type 0
RestartsLand T D = StaysThroughRestarts T D (λ w clock passes. HasLanded w passes)

abbrev pub SettledLooksLand : Type 0 → Type 0
SettledLooksLand T = StaysThroughLooks T (λ w clock passes. HasLanded w passes)

-- its passes are informed
abbrev pub FetchesInform : Type 0 → Type 0 → Type 0
FetchesInform T D = StaysThroughFetches T D AreInformed

abbrev pub RestartsInform : Type 0 → Type 0 → Type 0
RestartsInform T D = StaysThroughRestarts T D AreInformed

abbrev pub SettledLooksInform : Type 0 → Type 0
SettledLooksInform T = StaysThroughLooks T AreInformed

-- of a walker that has the disk of this shard at most: what it has after the restart
abbrev pub HoldsAfter : {T A E : Type 0} → ℕ → ℕ → Result A E → List (Option (Pass T Note Origin)) → Type 0
HoldsAfter n w (Ok epoch) passes = HoldsNone w passes
HoldsAfter n w (Err e) passes = HoldsNoneBut (Some n) w passes

abbrev pub RestartsEndHolding : Type 0 → Type 0 → Type 0
RestartsEndHolding T D =
    (story : D → Option Stories) (splits : List ℕ) (run : ℕ) (f : Fetched D) (w clock : ℕ) (before : List (Option (Pass T Note Origin))) (r : Result ℕ (RestartError × Fetched D)) (clock' : ℕ) (after : List (Option (Pass T Note Origin)))
    → RestartTold story splits run f w clock before r clock' after → HoldsNoneBut (Some f.shard) w before → HoldsAfter f.shard w r after
