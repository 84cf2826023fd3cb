-- Which requests wait, so that a home has something to send again.
use Rattle.std.specs.Prelude.{◌≡◌, ℕ, ◌==◌, Bool, false, not, List}
use Rattle.std.specs.List.{filter, list_all, list_any}
use Rattle.std.specs.Map.{keys_of}
use Rattle.clv_base.specs.declared.names.TxId.{TxId}
use Rattle.clv_base.specs.declared.state.Request.{Request}
use Rattle.clv_base.specs.declared.state.RequestState.{RequestState}
use Rattle.clv_base.specs.declared.state.RequestState.TheVariants.{Undecided, Committed, Finished, Refused}
use Rattle.clv_base.specs.Orders.{Table, nat_in}
use Rattle.clv_base.specs.Coordinator.{home_reminders}
use Rattle.tx_table.specs.Index.{index_of}

-- an undecided one waits where it touched another shard, a committed one until each part has acknowledged
abbrev pub waits_in : ℕ → Request → RequestState → Bool
waits_in shard q Undecided = list_any (λ t. not (t.0 == shard)) q.touched
waits_in shard q (Committed parts) = not (list_all (λ n. nat_in n q.acknowledged_by) parts)
waits_in shard q Finished = false
waits_in shard q (Refused cause) = false

abbrev pub waits : ℕ → Request → Bool
waits shard q = waits_in shard q q.state

-- the transactions whose requests wait
abbrev pub waiting_in : ℕ → Table Request → List TxId
waiting_in shard requests = index_of (waits shard) requests

-- reminders are the same, whether those of all that pass or of the waiting ones that pass are durable
abbrev pub RemindersByWaiting : Type 0
RemindersByWaiting =
    (shard : ℕ) (requests : Table Request) (test : TxId → Bool) → home_reminders shard requests (filter test (waiting_in shard requests)) ≡ home_reminders shard requests (filter test (keys_of requests))
