-- What a going back comes to, by how many of the transaction's writes it takes back.
use Rattle.std.specs.Prelude.{ℕ, Bool, true, false, Option, Some, None}
use Rattle.clv_base.specs.declared.names.TxId.{TxId}
use Rattle.clv_base.specs.declared.causes.AbortCause.{AbortCause}
use Rattle.clv_base.specs.declared.causes.AbortCause.TheVariants.{Asked, Restarted}
use Rattle.clv_base.specs.declared.events.Outcome.{Outcome}
use Rattle.clv_base.specs.declared.events.Outcome.TheVariants.{Rolled, Dead}
use Rattle.clv_base.specs.State.{Shard}
use Rattle.clv_base.specs.Undo.{stage_of}
use Rattle.clv_base.specs.Coordinator.{doom_cause}
use Rattle.clv_base.specs.Events.{Reply, Does, finish, roll_by_stage}

-- by whether the epoch that the session has seen is the shard's
abbrev pub goes_back : Shard → TxId → ℕ → ℕ → Bool → Reply
goes_back s tx seen n false = Does (Dead (Restarted s.shard seen s.local.epoch)) (finish s)
goes_back s tx seen n true = roll_by_stage s tx n (stage_of s.local tx)

-- the outcome, by why the transaction is aborted, if it is
abbrev pub went_back : Option AbortCause → Outcome
went_back None = Rolled
went_back (Some cause) = Dead cause

-- why one can't go back whose part is gone, finished or by an abort
abbrev pub gone_cause : TxId → Option TxId → AbortCause
gone_cause tx None = Asked
gone_cause tx (Some doom) = doom_cause tx doom
