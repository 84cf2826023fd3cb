-- What leaves a walker without a disk.
use Rattle.std.specs.Prelude.{ℕ, Bool, List, Option, Some, Result, Err}
use Rattle.clv_base.specs.declared.logs.LogRecord.{LogRecord}
use Rattle.turn_lock.specs.declared.pass.TurnLock.{TurnLock}
use Rattle.turn_lock.specs.declared.pass.Pass.{Pass}
use Rattle.machine_laws.specs.declared.notes.Note.{Note}
use Rattle.machine_laws.specs.declared.notes.Origin.{Origin}
use Rattle.cluster_turns.specs.Turns.{SettledTold}
use Rattle.cluster_turns.specs.Walkers.{Walked, AreNewPasses}
use Rattle.cluster_turns.specs.declared.tending.DrainError.{DrainError}
use Rattle.cluster_turns.specs.Rounds.{DrainTold}
use Rattle.cluster_closing.specs.declared.fetching.FetchError.{FetchError}
use Rattle.cluster_closing.specs.declared.fetching.Fetched.{Fetched}
use Rattle.cluster_closing.specs.EndHeld.{FetchTold, HoldsAt, IsDiskOf}
use Rattle.cluster_turns.specs.CallTurns.{Turn, Took}
use Rattle.cluster_closing.specs.Held.{HoldsNone, HoldsNoneBut, FetchedNone}

module _ (T : Type 0) where
  -- it begins so
  abbrev pub NewWalkersHoldNone : Type 0
  NewWalkersHoldNone = (splits : List ℕ) (founds : List (List LogRecord)) (locks : List (TurnLock T Note Origin)) (w : ℕ) (passes : List (Option (Pass T Note Origin))) → AreNewPasses splits founds locks w passes → HoldsNone w passes

  -- whatever turns a call takes
  abbrev pub TurnsHoldNone : Type 0
  TurnsHoldNone = (but : Option ℕ) (w c d : ℕ) (ps qs : List (Option (Pass T Note Origin))) (ts : List Turn) → Took w c ps ts d qs → HoldsNoneBut but w ps → HoldsNoneBut but w qs

  -- a drain
  abbrev pub DrainsHoldNone : Type 0
  DrainsHoldNone =
      (but : Option ℕ) (count w clock : ℕ) (before : List (Option (Pass T Note Origin))) (r : Result Unit DrainError) (clock' : ℕ) (after : List (Option (Pass T Note Origin))) → DrainTold count w clock before r clock' after
      → HoldsNoneBut but w before → HoldsNoneBut but w after

  -- a look at whether a shard is settled
  abbrev pub LooksHoldNone : Type 0
  LooksHoldNone =
      (but : Option ℕ) (answer : Bool) (w n : ℕ) (before after : List (Option (Pass T Note Origin))) → Walked (SettledTold answer) n w before after → HoldsNoneBut but w before → HoldsNoneBut but w after

  -- a walker that never took a disk hasn't after such calls; it begins so
  abbrev pub NewWalkersFetchedNone : Type 0
  NewWalkersFetchedNone = (splits : List ℕ) (founds : List (List LogRecord)) (locks : List (TurnLock T Note Origin)) (w : ℕ) (passes : List (Option (Pass T Note Origin))) → AreNewPasses splits founds locks w passes → FetchedNone passes

  abbrev pub TurnsFetchNone : Type 0
  TurnsFetchNone = (w c d : ℕ) (ps qs : List (Option (Pass T Note Origin))) (ts : List Turn) → Took w c ps ts d qs → FetchedNone ps → FetchedNone qs

  abbrev pub DrainsFetchNone : Type 0
  DrainsFetchNone =
      (count w clock : ℕ) (before : List (Option (Pass T Note Origin))) (r : Result Unit DrainError) (clock' : ℕ) (after : List (Option (Pass T Note Origin))) → DrainTold count w clock before r clock' after → FetchedNone before → FetchedNone after

  -- after a fetch it has that shard's disk at most
  abbrev pub FetchesHoldOne : Type 0 → Type 0
  FetchesHoldOne D =
      (w n : ℕ) (r : Result D FetchError) (before after : List (Option (Pass T Note Origin))) → Walked (FetchTold w r) n w before after → HoldsNone w before → HoldsNoneBut (Some n) w after

  -- after one that was refused it has no more than before
  abbrev pub RefusedFetchesHoldNone : Type 0 → Type 0
  RefusedFetchesHoldNone D =
      (but : Option ℕ) (w n : ℕ) (e : FetchError) (before after : List (Option (Pass T Note Origin))) → Walked (FetchTold {D = D} w (Err e)) n w before after → HoldsNoneBut but w before → HoldsNoneBut but w after

  -- a walker that has a disk has it still, whatever turns its calls take
  abbrev pub HeldDisksStay : Type 0 → Type 0
  HeldDisksStay D =
      (faults : D → ℕ) (f : Fetched D) (n w c d : ℕ) (ps qs : List (Option (Pass T Note Origin))) (ts : List Turn) → Took w c ps ts d qs → HoldsAt n w (λ layout. IsDiskOf faults f) ps → HoldsAt n w (λ layout. IsDiskOf faults f) qs
