-- What a reminder tells.
use Rattle.std.specs.Prelude.{ℕ, Result, Ok, Err}
use Rattle.clv_base.specs.declared.events.Outcome.{Outcome}
use Rattle.clv_base.specs.declared.events.Outcome.TheVariants.{Reminded as RemindedOut, Nothing as NothingOut}
use Rattle.machine_calls.specs.declared.machine.StepError.{StepError}
use Rattle.cluster_turns.specs.declared.carrying.CarryError.{CarryError}
use Rattle.cluster_turns.specs.declared.carrying.CarryError.TheVariants.{Down}
use Rattle.cluster_turns.specs.declared.reminding.Reminding.{Reminding}
use Rattle.cluster_turns.specs.declared.reminding.Reminding.TheVariants.{Reminded, Nothing}
use Rattle.cluster_turns.specs.Carried.{refusal}

abbrev pub reminded_by : ℕ → Result Outcome StepError → Result Reminding CarryError
reminded_by shard (Ok (RemindedOut n)) = Ok (Reminded n)
reminded_by shard (Ok NothingOut) = Ok Nothing
reminded_by shard (Ok _) = Err (Down shard)
reminded_by shard (Err e) = Err (refusal e)
