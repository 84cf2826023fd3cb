-- What recovery hands to a machine, and the gate of a shard that is down.
use Rattle.std.specs.Prelude.{◌≡◌, ℕ, ◌^◌, Bool, true, false, nat_lt, List, length, Option, None, Result, Ok, Err}
use Rattle.std.specs.List.{list_all}
use Rattle.clv_base.specs.declared.logs.LogRecord.{LogRecord}
use Rattle.clv_base.specs.declared.events.Event.TheVariants.{Restart}
use Rattle.clv_base.specs.declared.events.Outcome.{Outcome}
use Rattle.clv_base.specs.declared.events.Outcome.TheVariants.{Up}
use Rattle.clv_base.specs.FileRules.{has_spelling}
use Rattle.clv_base.specs.LogRules.{disorder}
use Rattle.clv_base.specs.Logs.{in_doubt}
use Rattle.clv_base.specs.Needs.{Records}
use Rattle.clv_base.specs.State.{Shard}
use Rattle.clv_base.specs.Events.{Does, CallAnswer, stamped, next_stamp}
use Rattle.clv_base.specs.Restarts.{log_after_restart, local_after, homes_of, restored_pairs, unended_in, revived}
use Rattle.shard_recovery.specs.declared.recovering.Recovered.{Recovered}
use Rattle.machine_calls.specs.declared.machine.StepError.{StepError}

-- these records and what recovery found are the restart state of one log, whose records have spellings and which is a log in order with what a restart adds
pub record IsRestored (shard run epoch : ℕ) (records : Records) (r : Recovered) : Type 0 where
  pub found : List LogRecord
  pub in_order : disorder shard found ≡ None
  pub log : r.buffer.records ≡ log_after_restart shard found run epoch
  pub spelled : list_all has_spelling r.buffer.records ≡ true
  pub durable : r.buffer.durable ≡ length r.buffer.records
  pub taken : r.buffer.taken ≡ length r.buffer.records
  pub records_are : records ≡ (local_after shard epoch r.buffer.records).records
  pub doubtful : r.in_doubt.items ≡ homes_of r.buffer.records (in_doubt shard r.buffer.records)
  pub pairs : r.pairs.items ≡ restored_pairs r.buffer.records (in_doubt shard r.buffer.records)
  pub unended : r.unended.items ≡ unended_in r.buffer.records r.buffer.records

-- the restart of a shard that is down, to this log
abbrev pub revives : Shard → ℕ → ℕ → ℕ → List LogRecord → CallAnswer
revives s clock walker epoch log =
    stamped (next_stamp s clock Restart) walker Restart (nat_lt (next_stamp s clock Restart) (2 ^ 48)) (Does (Up epoch) (revived s epoch log))

-- the gate that may be taken, and the one that is left
abbrev pub down_gate_of : {G : Type 0} → Bool → Option G → Option G
down_gate_of true gate = None
down_gate_of false gate = gate

abbrev pub gate_left : {G : Type 0} → Bool → Option G → Option G
gate_left true gate = gate
gate_left false gate = None

-- an answer whose error gives something back, without it
abbrev pub error_in : {G : Type 0} → Result Outcome (StepError × G) → Result Outcome StepError
error_in (Ok o) = Ok o
error_in (Err e) = Err e.0
