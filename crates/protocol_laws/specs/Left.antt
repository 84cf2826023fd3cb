-- How much room doing what is due may need, by what may still be done: less than the work that bounds the number of steps, since nothing is left of a
-- transaction that is over.
use Rattle.std.specs.Prelude.{◌≡◌, ℕ, ◌+◌, ◌*◌, ◌<◌, ◌≤◌, Bool, true, false, cond, ◌&&◌, [], ◌∷◌, length, Option, Some, None, is_none}
use Rattle.clv_base.specs.declared.names.TxId.{TxId}
use Rattle.clv_base.specs.declared.state.Held.{Held}
use Rattle.clv_base.specs.declared.state.Stage.{Stage}
use Rattle.clv_base.specs.declared.state.Stage.TheVariants.{Active, Closed, Gone}
use Rattle.clv_base.specs.declared.state.Voter.{Voter}
use Rattle.clv_base.specs.declared.state.Request.{Request}
use Rattle.clv_base.specs.declared.state.RequestState.{RequestState}
use Rattle.clv_base.specs.declared.state.RequestState.TheVariants.{Undecided, Committed, Finished, Refused}
use Rattle.clv_base.specs.Orders.{Table, tx_get}
use Rattle.clv_base.specs.State.{Shard}
use Rattle.clv_base.specs.Undo.{stage_of}
use Rattle.clv_base.specs.Coordinator.{others, first_no}
use Rattle.clv_base.specs.Events.{is_alone}
use Rattle.clv_base.specs.Due.{total, part_work, next_due}
use Rattle.protocol_laws.specs.Candidates.{is_due}
use Rattle.protocol_laws.specs.Rooms.{part_of, FewParts, decisions}

-- ---- parts of which nothing comes any more

-- finished: gone, and no abort took it away. It stays so
abbrev pub is_finished_stage : Stage → Bool
is_finished_stage Active = false
is_finished_stage Closed = false
is_finished_stage (Gone None) = true
is_finished_stage (Gone (Some doom)) = false

abbrev pub is_over : Bool → Option Held → Bool
is_over unknown None = unknown
is_over unknown (Some h) = is_finished_stage h.stage

-- whether the transaction's part is finished, and whether it is finished or not known
abbrev pub is_finished : Table Held → TxId → Bool
is_finished parts tx = is_over false (tx_get tx parts)

abbrev pub is_idle : Table Held → TxId → Bool
is_idle parts tx = is_over true (tx_get tx parts)

-- ---- what may still be done of one voter where its part is finished or not, and of one request where the part is idle or not

-- a finished part gives no vote but one that it gave before
abbrev pub left_voter : Bool → Voter → ℕ
left_voter finished v = cond (finished && is_none v.vote) 0 v.owed

-- whether a request is of this shard alone, and nobody voted no: then nothing is ruled of it while its part is idle
abbrev pub is_lone : ℕ → Request → Bool
is_lone shard q = is_alone (others shard q.touched) && is_none (first_no q.votes)

-- an undecided request may be ruled and ended unless it is over, a commit with parts ended
abbrev pub left_by : Bool → RequestState → Bool → ℕ
left_by is_over Undecided is_ended = cond is_over 0 2
left_by is_over (Committed []) is_ended = 0
left_by is_over (Committed (p ∷ ps)) is_ended = cond is_ended 0 1
left_by is_over Finished is_ended = 0
left_by is_over (Refused cause) is_ended = 0

abbrev pub left_request : ℕ → Bool → Request → ℕ
left_request shard idle q = left_by (idle && is_lone shard q) q.state q.is_ended

-- ---- what may still be done on the shard, and for one transaction

-- the sum over a table of what each row counts, by a test of its transaction
abbrev pub total_by : {X : Type 0} → (Bool → X → ℕ) → (TxId → Bool) → Table X → ℕ
total_by f test [] = 0
total_by f test (r ∷ rs) = f (test r.0) r.1 + total_by f test rs

abbrev pub left : Shard → ℕ
left s =
    total part_work s.local.parts + total_by left_voter (is_finished s.local.parts) s.voters
    + total_by (left_request s.shard) (is_idle s.local.parts) s.requests

abbrev pub count_of : {X : Type 0} → (Bool → X → ℕ) → Bool → Option X → ℕ
count_of f passes None = 0
count_of f passes (Some x) = f passes x

abbrev pub own_left : Shard → TxId → ℕ
own_left s tx =
    part_of (stage_of s.local tx) + count_of left_voter (is_finished s.local.parts tx) (tx_get tx s.voters)
    + count_of (left_request s.shard) (is_idle s.local.parts tx) (tx_get tx s.requests)

-- each thing that is done leaves less
abbrev pub LeftFalls : Type 0
LeftFalls = (s t : Shard) → next_due s ≡ Some t → left t < left s

-- something is due only for transactions for which something is left
abbrev pub OnlyLeftIsDue : Type 0
OnlyLeftIsDue = (s : Shard) (tx : TxId) → is_due s tx ≡ true → 0 < own_left s tx

-- room for 15 messages, and for one record beside undo, for each is enough
abbrev pub MessagesByLeft : Type 0
MessagesByLeft = (s t : Shard) → FewParts s → next_due s ≡ Some t → length t.outbox + 15 * left t ≤ length s.outbox + 15 * left s

abbrev pub RecordsByLeft : Type 0
RecordsByLeft = (s t : Shard) → next_due s ≡ Some t → decisions t.local.log + left t ≤ decisions s.local.log + left s
