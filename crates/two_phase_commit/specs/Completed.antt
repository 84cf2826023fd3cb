-- Of which requests nothing more is asked or told, once their COMMITs are durable.
use Rattle.std.specs.Prelude.{ℕ, ◌==◌, Bool, true, false, not, ◌&&◌, ◌||◌, length, Option, Some, None}
use Rattle.clv_base.specs.declared.names.TxId.{TxId}
use Rattle.clv_base.specs.declared.state.Stage.{Stage}
use Rattle.clv_base.specs.declared.state.Stage.TheVariants.{Active, Closed, Gone}
use Rattle.clv_base.specs.declared.state.Request.{Request}
use Rattle.clv_base.specs.declared.state.RequestState.{RequestState}
use Rattle.clv_base.specs.declared.state.RequestState.TheVariants.{Undecided, Committed, Finished, Refused}
use Rattle.clv_base.specs.Orders.{tx_get}
use Rattle.clv_base.specs.Logs.{committed_in}
use Rattle.clv_base.specs.State.{Shard}
use Rattle.clv_base.specs.Undo.{stage_of}
use Rattle.two_phase_commit.specs.Waiting.{waits}

-- nobody voted, or the commit has no part, or its END is written; not of one that only read or was refused, as its row alone answers a look
abbrev pub is_final : Request → RequestState → Bool
is_final q Undecided = length q.votes == 0
is_final q (Committed parts) = (length parts == 0) || q.is_ended
is_final q Finished = false
is_final q (Refused cause) = false

-- and it waits neither for a vote nor for an acknowledgement
abbrev pub is_complete : ℕ → Request → Bool
is_complete shard q = not (waits shard q) && is_final q q.state

-- that of a transaction, if it has a request here
abbrev pub complete_by : ℕ → Option Request → Bool
complete_by shard None = false
complete_by shard (Some q) = is_complete shard q

-- a part that is gone, and that no abort took away
abbrev pub is_finished : Option Stage → Bool
is_finished None = false
is_finished (Some Active) = false
is_finished (Some Closed) = false
is_finished (Some (Gone None)) = true
is_finished (Some (Gone (Some doom))) = false

-- nothing asks for its request any more: the part here is finished, the COMMIT is in the log, and the request is complete
abbrev pub is_spent : Shard → TxId → Bool
is_spent s tx = is_finished (stage_of s.local tx) && (committed_in s.local.log tx && complete_by s.shard (tx_get tx s.requests))
