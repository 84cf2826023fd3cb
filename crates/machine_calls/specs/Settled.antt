-- When nothing is left to do on a shard but for active parts.
use Rattle.std.specs.Prelude.{ℕ, Bool, true, false, ◌&&◌, ◌||◌, not, ◌==◌, List, [], ◌∷◌, length, is_none}
use Rattle.std.specs.List.{list_all}
use Rattle.clv_base.specs.declared.names.TxId.{TxId}
use Rattle.clv_base.specs.declared.logs.LogRecord.{LogRecord}
use Rattle.clv_base.specs.Logs.{committed_in}
use Rattle.clv_base.specs.Orders.{Table}
use Rattle.clv_base.specs.declared.state.Held.{Held}
use Rattle.clv_base.specs.declared.state.Request.{Request}
use Rattle.clv_base.specs.declared.state.RequestState.{RequestState}
use Rattle.clv_base.specs.declared.state.RequestState.TheVariants.{Undecided, Committed, Finished, Refused}
use Rattle.clv_base.specs.State.{Shard, is_active_stage, is_closed_stage}
use Rattle.machine_calls.specs.Steps.{sends_nothing}

-- all of the log is durable
abbrev pub is_flushed : Shard → Bool
is_flushed s = (s.durable == length s.local.log) && is_none s.flight

-- a part that isn't closed, or is decided
abbrev pub is_part_settled : List LogRecord → TxId → Held → Bool
is_part_settled log tx h = not (is_closed_stage h.stage) || committed_in log tx

-- a request is decided, and each part of its COMMIT has acknowledged it. That of one shard is decided by its COMMIT alone
abbrev pub has_no_parts : List ℕ → Bool
has_no_parts [] = true
has_no_parts (p ∷ ps) = false

abbrev pub is_state_ended : List LogRecord → TxId → Bool → RequestState → Bool
is_state_ended log tx ended Undecided = committed_in log tx
is_state_ended log tx ended (Committed parts) = has_no_parts parts || ended
is_state_ended log tx ended Finished = true
is_state_ended log tx ended (Refused cause) = true

abbrev pub is_request_settled : List LogRecord → TxId → Request → Bool
is_request_settled log tx q = is_state_ended log tx q.is_ended q.state

-- it is up, nothing is buffered or in flight, no message is to be sent, no closed part is undecided, and each request is decided and acknowledged
abbrev pub is_settled : Shard → Bool
is_settled s =
    s.is_up && is_flushed s && sends_nothing s.outbox && list_all (λ p. is_part_settled s.local.log p.0 p.1) s.local.parts && list_all (λ q. is_request_settled s.local.log q.0 q.1) s.requests

-- no part is active
abbrev pub are_inactive : Table Held → Bool
are_inactive parts = list_all (λ p. not (is_active_stage (p.1).stage)) parts

-- it is settled, and no part is active: nothing is left to do at all
abbrev pub is_quiet : Shard → Bool
is_quiet s = is_settled s && are_inactive s.local.parts
