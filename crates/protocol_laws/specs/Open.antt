-- What may still be done where nothing is due, by what is open alone: parts that are here, votes that these owe, and requests that wait for other shards.
use Rattle.std.specs.Prelude.{◌≡◌, ℕ, ◌+◌, ◌*◌, ◌≤◌, Bool, false, not, List, [], ◌∷◌, length, Some, None}
use Rattle.std.specs.List.{filter, list_all}
use Rattle.std.specs.List.Sorted.{IsStrictlySortedBy}
use Rattle.std.specs.Map.{keys_of}
use Rattle.clv_base.specs.declared.names.TxId.{TxId}
use Rattle.clv_base.specs.declared.state.Held.{Held}
use Rattle.clv_base.specs.declared.state.Voter.{Voter}
use Rattle.clv_base.specs.declared.state.Request.{Request}
use Rattle.clv_base.specs.declared.state.RequestState.{RequestState}
use Rattle.clv_base.specs.declared.state.RequestState.TheVariants.{Undecided, Committed, Finished, Refused}
use Rattle.clv_base.specs.Orders.{Table, tx_cmp, tx_get, nat_in}
use Rattle.clv_base.specs.State.{Shard, is_present}
use Rattle.clv_base.specs.Coordinator.{others}
use Rattle.clv_base.specs.Events.{is_alone}
use Rattle.clv_base.specs.Due.{next_due}
use Rattle.protocol_laws.specs.Rooms.{voter_of}
use Rattle.protocol_laws.specs.Left.{left}

-- the transactions whose parts are active or closed
abbrev pub txs_here : Table Held → List TxId
txs_here parts = keys_of (filter (λ p. is_present (Some (p.1).stage)) parts)

-- how many votes these transactions owe
abbrev pub votes_owed : Table Voter → List TxId → ℕ
votes_owed voters [] = 0
votes_owed voters (t ∷ ts) = voter_of (tx_get t voters) + votes_owed voters ts

-- a request waits for other shards: undecided for those that it touched, as a commit for its parts' acknowledgements
abbrev pub waits_in : ℕ → Request → RequestState → Bool
waits_in shard q Undecided = not (is_alone (others shard q.touched))
waits_in shard q (Committed parts) = not (list_all (λ n. nat_in n q.acknowledged_by) parts)
waits_in shard q Finished = false
waits_in shard q (Refused cause) = false

abbrev pub count_waiting : ℕ → Table Request → ℕ
count_waiting shard requests = length (filter (λ r. waits_in shard r.1 (r.1).state) requests)

-- three for each part that is here, one for each vote that it owes, two for each request that waits
abbrev pub open_work : Shard → ℕ
open_work s =
    3 * length (txs_here s.local.parts) + votes_owed s.voters (txs_here s.local.parts) + 2 * count_waiting s.shard s.requests

abbrev pub LeftByOpen : Type 0
LeftByOpen =
    (s : Shard) → IsStrictlySortedBy tx_cmp (keys_of s.voters) → IsStrictlySortedBy tx_cmp (keys_of s.requests) → next_due s ≡ None → left s ≤ open_work s
