-- How much room doing what is due may need: the work that is left is the measure of it all.
use Rattle.std.specs.Prelude.{◌≡◌, ℕ, ◌+◌, ◌*◌, ◌<◌, ◌≤◌, Bool, true, false, List, [], length, Option, Some, None}
use Rattle.std.specs.List.{filter}
use Rattle.clv_base.specs.declared.names.TxId.{TxId}
use Rattle.clv_base.specs.declared.logs.LogRecord.{LogRecord}
use Rattle.clv_base.specs.declared.logs.LogRecord.TheVariants.{Prepare, Commit, End}
use Rattle.clv_base.specs.declared.state.Stage.{Stage}
use Rattle.clv_base.specs.declared.state.Voter.{Voter}
use Rattle.clv_base.specs.declared.state.Request.{Request}
use Rattle.clv_base.specs.declared.state.RequestState.{RequestState}
use Rattle.clv_base.specs.declared.state.RequestState.TheVariants.{Undecided, Committed, Finished, Refused}
use Rattle.clv_base.specs.Orders.{tx_get}
use Rattle.clv_base.specs.State.{Shard}
use Rattle.clv_base.specs.Undo.{stage_of}
use Rattle.clv_base.specs.Coordinator.{others}
use Rattle.clv_base.specs.Due.{stage_work, voter_work, request_work, work, next_due}
use Rattle.protocol_laws.specs.Candidates.{is_due}

-- ---- candidates

abbrev pub part_of : Option Stage → ℕ
part_of None = 0
part_of (Some st) = stage_work st

abbrev pub voter_of : Option Voter → ℕ
voter_of None = 0
voter_of (Some v) = voter_work v

abbrev pub request_of : Option Request → ℕ
request_of None = 0
request_of (Some q) = request_work q

-- the work that is left for one transaction
abbrev pub own_work : Shard → TxId → ℕ
own_work s tx = part_of (stage_of s.local tx) + voter_of (tx_get tx s.voters) + request_of (tx_get tx s.requests)

-- something is due only for transactions for which work is left, so no other need be a candidate
abbrev pub OnlyWorkIsDue : Type 0
OnlyWorkIsDue = (s : Shard) (tx : TxId) → is_due s tx ≡ true → 0 < own_work s tx

-- ---- messages

abbrev pub parts_of : RequestState → List ℕ
parts_of (Committed parts) = parts
parts_of Undecided = []
parts_of Finished = []
parts_of (Refused cause) = []

-- each request has at most 15 other parts
abbrev pub FewParts : Shard → Type 0
FewParts s = (tx : TxId) (q : Request) → tx_get tx s.requests ≡ Some q → (length (others s.shard q.touched) ≤ 15) × (length (parts_of q.state) ≤ 15)

-- room for 15 messages for each piece of work is enough
abbrev pub MessagesByWork : Type 0
MessagesByWork = (s t : Shard) → FewParts s → next_due s ≡ Some t → length t.outbox + 15 * work t ≤ length s.outbox + 15 * work s

-- ---- records

-- a record that isn't of an undo
abbrev pub is_decision : LogRecord → Bool
is_decision (Prepare tx home predecessors) = true
is_decision (Commit tx parts) = true
is_decision (End tx) = true
is_decision _ = false

abbrev pub decisions : List LogRecord → ℕ
decisions log = length (filter is_decision log)

-- room for one record for each piece of work is enough, beside that for undo
abbrev pub RecordsByWork : Type 0
RecordsByWork = (s t : Shard) → next_due s ≡ Some t → decisions t.local.log + work t ≤ decisions s.local.log + work s
