-- What one flush tells: its first turn, and where that took a flight its second.
use Rattle.std.specs.Prelude.{◌≡◌, ℕ, Bool, true, false, List, Option, Result, Ok, Err}
use Rattle.clv_base.specs.declared.events.Event.TheVariants.{FlushOut}
use Rattle.clv_base.specs.declared.events.Outcome.{Outcome}
use Rattle.clv_base.specs.declared.events.Outcome.TheVariants.{Out, Nothing as NothingOut, Away as AwayOut}
use Rattle.turn_lock.specs.declared.pass.Pass.{Pass}
use Rattle.machine_calls.specs.declared.machine.StepError.{StepError}
use Rattle.machine_calls.specs.declared.machine.StepError.TheVariants.{Memory as NoMemory, Worn as IsWorn}
use Rattle.machine_calls.specs.Flights.{is_out}
use Rattle.machine_laws.specs.declared.notes.Note.{Note}
use Rattle.machine_laws.specs.declared.notes.Origin.{Origin}
use Rattle.cluster_turns.specs.Turns.{EventTold}
use Rattle.cluster_turns.specs.Walkers.{Walked}
use Rattle.cluster_turns.specs.declared.flushing.Flushed.{Flushed}
use Rattle.cluster_turns.specs.declared.flushing.Flushed.TheVariants.{Durable, Nothing, Away}
use Rattle.cluster_turns.specs.declared.flushing.FlushError.{FlushError}
use Rattle.cluster_turns.specs.declared.flushing.FlushError.TheVariants.{Failed, Down, Worn, Memory}
use Rattle.cluster_turns.specs.Flights.{LandTold, KnownAt}

-- what a flush answers that took no flight
abbrev pub stayed : Result Outcome StepError → Result Flushed FlushError
stayed (Ok NothingOut) = Ok Nothing
stayed (Ok AwayOut) = Ok Away
stayed (Ok _) = Err Down
stayed (Err NoMemory) = Err Memory
stayed (Err (IsWorn at)) = Err (Worn at)

abbrev pub has_no_flight : Result Outcome StepError → Bool
has_no_flight (Ok o) = elim (is_out o) [ true ↦ false | false ↦ true ]
has_no_flight (Err e) = true

-- and one that did
abbrev pub flown : Bool → ℕ → Result Flushed FlushError
flown true upto = Ok (Durable upto)
flown false upto = Err Failed

pub data FlushTold {T : Type 0} (n w clock : ℕ) (before : List (Option (Pass T Note Origin))) : Result Flushed FlushError → ℕ → List (Option (Pass T Note Origin)) → Type 0 where
  one_turn :
      (r : Result Outcome StepError) (clock' : ℕ) (after : List (Option (Pass T Note Origin))) → has_no_flight r ≡ true → Walked (EventTold clock w FlushOut r clock') n w before after
      → FlushTold n w clock before (stayed r) clock' after
  two_turns :
      (upto c clock' : ℕ) (pushed : Bool) (between after : List (Option (Pass T Note Origin))) → Walked (EventTold clock w FlushOut (Ok (Out upto)) c) n w before between
      → Walked (LandTold c w pushed upto clock') n w between after → (pushed ≡ true → KnownAt n upto after) → FlushTold n w clock before (flown pushed upto) clock' after
