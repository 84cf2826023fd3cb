-- The turn in which a shard that is down is up again.
use Rattle.std.specs.Prelude.{◌≡◌, ℕ, ◌-◌, ◌^◌, max, false, List, [], ◌∷◌, Option, Some, None, Result, Ok, Err, slice_index_or}
use Rattle.clv_base.specs.declared.logs.LogRecord.{LogRecord}
use Rattle.clv_base.specs.declared.events.Event.TheVariants.{Restart}
use Rattle.clv_base.specs.declared.events.Outcome.TheVariants.{Up}
use Rattle.clv_base.specs.declared.events.Entry.{Entry}
use Rattle.clv_base.specs.Events.{Worn as IsWorn}
use Rattle.clv_base.specs.Needs.{Records}
use Rattle.clv_base.specs.State.{Shard}
use Rattle.clv_base.specs.Restarts.{log_after_restart, misfit, next_epoch}
use Rattle.shard_recovery.specs.declared.recovering.Recovered.{Recovered}
use Rattle.machine_calls.specs.declared.machine.StepError.{StepError}
use Rattle.machine_calls.specs.declared.machine.StepError.TheVariants.{Memory as NoMemory, Worn as WornAt}
use Rattle.machine_calls.specs.Steps.{Made as IsMade}
use Rattle.machine_calls.specs.Restored.{revives}
use Rattle.turn_lock.specs.declared.pass.Pass.{Pass}
use Rattle.turn_lock.specs.Passes.{pass_origin, seen}
use Rattle.machine_laws.specs.declared.notes.Note.{Note}
use Rattle.machine_laws.specs.declared.notes.Note.TheVariants.{Made}
use Rattle.machine_laws.specs.declared.notes.Origin.{Origin}
use Rattle.cluster_opening.specs.declared.error.At.TheVariants.{Byte, Record}
use Rattle.cluster_closing.specs.declared.error.RestartError.{RestartError}
use Rattle.cluster_closing.specs.declared.error.RestartError.TheVariants.{Failed, NotLog, Worn, Memory}
use Rattle.cluster_closing.specs.Readied.{IsReady}

-- the shard in this state may be restarted with these records and lists, from the log found
pub record IsReadyFor (s : Shard) (epoch : ℕ) (found : List LogRecord) (records : Records) (r : Recovered) : Type 0 where
  pub ready : IsReady s.shard s.run epoch found records r
  pub epoch_is : epoch ≡ next_epoch s found

-- the restart by the walker w with this clock, from the state s to t: from the log found, with all that it adds, which fits the shard; and the note of it
pub record Revives (clock w epoch : ℕ) (found : List LogRecord) (clock' : ℕ) (s t : Shard) (added : List Note) : Type 0 where
  pub down : s.is_up ≡ false
  pub epoch_is : epoch ≡ next_epoch s found
  pub fits : misfit s (log_after_restart s.shard found s.run epoch) epoch ≡ None
  pub made : Entry
  pub made_is : IsMade (revives s clock w epoch (log_after_restart s.shard found s.run epoch)) s clock w Restart (Up epoch) t made
  pub added_is : added ≡ Made made (log_after_restart s.shard found s.run epoch) ∷ []
  pub clock_is : clock' ≡ made.stamp

-- why it is refused, by the state and the log that the restart would have: a record that doesn't fit, a stamp that would be too great, or no memory
abbrev pub RefusedBy : Shard → ℕ → ℕ → ℕ → List LogRecord → RestartError → Type 0
RefusedBy s clock w epoch log Failed = ⊥
RefusedBy s clock w epoch log (NotLog (Byte offset)) = ⊥
RefusedBy s clock w epoch log (NotLog (Record lsn)) = misfit s log epoch ≡ Some lsn
RefusedBy s clock w epoch log (Worn at) = (revives s clock w epoch log ≡ IsWorn) × (at ≡ 2 ^ 48)
RefusedBy s clock w epoch log Memory = Unit {0}

-- the walker's clock after it: worn for good where it is worn
abbrev pub clock_at : ℕ → RestartError → ℕ
clock_at clock Failed = clock
clock_at clock (NotLog at) = clock
clock_at clock (Worn at) = max clock (2 ^ 48 - 1)
clock_at clock Memory = clock

abbrev pub StepTold : ℕ → StepError → ℕ × RestartError
StepTold clock NoMemory = (clock, Memory)
StepTold clock (WornAt at) = (max clock (2 ^ 48 - 1), Worn at)

-- the turn of a restart that was refused
pub record Rests (clock w epoch : ℕ) (found : List LogRecord) (e : RestartError) (clock' : ℕ) (s t : Shard) (added : List Note) : Type 0 where
  pub down : s.is_up ≡ false
  pub epoch_is : epoch ≡ next_epoch s found
  pub why : RefusedBy s clock w epoch (log_after_restart s.shard found s.run epoch) e
  pub same : t ≡ s
  pub added_is : added ≡ []
  pub clock_is : clock' ≡ clock_at clock e

-- what the turn of a restart tells
abbrev pub ReviveTold : {D : Type 0} → ℕ → ℕ → ℕ → List LogRecord → Result ℕ (RestartError × D) → ℕ → Shard → Shard → List Note → Type 0
ReviveTold clock w epoch found (Ok n) clock' s t added = (n ≡ epoch) × Revives clock w epoch found clock' s t added
ReviveTold clock w epoch found (Err e) clock' s t added = Rests clock w epoch found e.0 clock' s t added

-- the pass of shard n has seen no more than before
pub record IsSameSeen {T : Type 0} (n : ℕ) (before after : List (Option (Pass T Note Origin))) : Type 0 where
  pub p : Pass T Note Origin
  pub q : Pass T Note Origin
  pub had : (d : Option (Pass T Note Origin)) → slice_index_or before n d ≡ Some p
  pub has : (d : Option (Pass T Note Origin)) → slice_index_or after n d ≡ Some q
  pub same : (seen q ≡ seen p) × (pass_origin q ≡ pass_origin p)
