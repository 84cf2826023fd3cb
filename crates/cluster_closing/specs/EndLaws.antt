-- What leaves a walker without a gate.
use Rattle.std.specs.Prelude.{◌≡◌, ℕ, true, List, Option, Result}
use Rattle.clv_base.specs.declared.logs.LogRecord.{LogRecord}
use Rattle.clv_base.specs.declared.events.Event.{Event}
use Rattle.clv_base.specs.declared.events.Outcome.{Outcome}
use Rattle.turn_lock.specs.declared.pass.TurnLock.{TurnLock}
use Rattle.turn_lock.specs.declared.pass.Pass.{Pass}
use Rattle.machine_calls.specs.declared.machine.StepError.{StepError}
use Rattle.machine_laws.specs.declared.notes.Note.{Note}
use Rattle.machine_laws.specs.declared.notes.Origin.{Origin}
use Rattle.machine_laws.specs.Homes.{is_single}
use Rattle.cluster_turns.specs.Turns.{EventTold}
use Rattle.cluster_turns.specs.Walkers.{Walked, AreNewPasses}
use Rattle.cluster_turns.specs.declared.flushing.Flushed.{Flushed}
use Rattle.cluster_turns.specs.declared.flushing.FlushError.{FlushError}
use Rattle.cluster_turns.specs.Told.{FlushTold}
use Rattle.cluster_turns.specs.declared.carrying.Carry.{Carry}
use Rattle.cluster_turns.specs.declared.carrying.CarryError.{CarryError}
use Rattle.cluster_turns.specs.Carried.{CarryTold}
use Rattle.cluster_turns.specs.declared.tending.DrainError.{DrainError}
use Rattle.cluster_turns.specs.Rounds.{DrainTold}
use Rattle.cluster_closing.specs.Landed.{HasLanded}

module _ (T : Type 0) where
  -- it begins so
  abbrev pub NewWalkersHaveLanded : Type 0
  NewWalkersHaveLanded = (splits : List ℕ) (founds : List (List LogRecord)) (locks : List (TurnLock T Note Origin)) (w : ℕ) (passes : List (Option (Pass T Note Origin))) → AreNewPasses splits founds locks w passes → HasLanded w passes

  -- an event of one call
  abbrev pub EventsLand : Type 0
  EventsLand =
      (clock w n : ℕ) (e : Event) (r : Result Outcome StepError) (clock' : ℕ) (before after : List (Option (Pass T Note Origin))) → Walked (EventTold clock w e r clock') n w before after → is_single e ≡ true → HasLanded w before
      → HasLanded w after

  -- a flush, whatever comes of it
  abbrev pub FlushesLand : Type 0
  FlushesLand =
      (n w clock : ℕ) (before : List (Option (Pass T Note Origin))) (r : Result Flushed FlushError) (clock' : ℕ) (after : List (Option (Pass T Note Origin))) → FlushTold n w clock before r clock' after → HasLanded w before → HasLanded w after

  -- a message
  abbrev pub MessagesLand : Type 0
  MessagesLand =
      (count n w clock : ℕ) (before : List (Option (Pass T Note Origin))) (r : Result Carry CarryError) (clock' : ℕ) (after : List (Option (Pass T Note Origin))) → CarryTold count n w clock before r clock' after → HasLanded w before
      → HasLanded w after

  -- a drain
  abbrev pub DrainsLand : Type 0
  DrainsLand =
      (count w clock : ℕ) (before : List (Option (Pass T Note Origin))) (r : Result Unit DrainError) (clock' : ℕ) (after : List (Option (Pass T Note Origin))) → DrainTold count w clock before r clock' after → HasLanded w before → HasLanded w after
