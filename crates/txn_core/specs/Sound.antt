-- What holds of a shard's transactions, whatever was done: what a part did can be taken away.
use Rattle.std.specs.Prelude.{◌≡◌, ℕ, ◌+◌, ◌≤◌, ◌⊎◌, min, Bool, true, false, cond, not, ◌&&◌, List, length, Option, Some, None}
use Rattle.std.specs.List.{AllByRecursion, filter, list_any}
use Rattle.clv_base.specs.declared.names.TxId.{TxId}
use Rattle.clv_base.specs.declared.logs.LogRecord.{LogRecord}
use Rattle.clv_base.specs.declared.modes.Anchor.TheVariants.{At}
use Rattle.clv_base.specs.declared.modes.Need.{Need}
use Rattle.clv_base.specs.declared.state.Stage.{Stage}
use Rattle.clv_base.specs.declared.state.Stage.TheVariants.{Active, Closed, Gone}
use Rattle.clv_base.specs.declared.state.Held.{Held}
use Rattle.clv_base.specs.Orders.{Table, tx_same, tx_get, anchor_same}
use Rattle.clv_base.specs.Logs.{StandingUpdate, standing, writers, committed_in}
use Rattle.clv_base.specs.Facts.{predecessors_of}
use Rattle.clv_base.specs.Locks.{Locks}
use Rattle.clv_base.specs.Needs.{found_at, is_there}
use Rattle.clv_base.specs.State.{Local, is_present}
use Rattle.clv_base.specs.Undo.{stage_of}
use Rattle.protocol_laws.specs.Spelled.{IsSpelled}
use Rattle.shard_ops.specs.Ghosts.{GhostsAreLocked}
use Rattle.shard_ops.specs.declared.plan.Insert.{Insert}
use Rattle.shard_ops.specs.declared.plan.Write.{Write}
use Rattle.txn_core.specs.State.{TxState, AreSettled}

-- whether the transaction's part here is active or closed
abbrev pub is_here : Local → TxId → Bool
is_here l t = is_present (stage_of l t)

-- the same, by the parts
abbrev pub is_in : Table Held → TxId → Bool
is_in parts t = is_present (elim (tx_get t parts) [ Some h ↦ Some h.stage | None ↦ None ])

-- whether the transaction has a lock on the record at the key
abbrev pub has_lock : TxId → ℕ → Locks → Bool
has_lock t k locks = list_any (λ r. anchor_same (At k) r.0 && tx_same t (r.1).tx) locks

-- a write of a part that is here has its record, and its transaction a lock on it
abbrev pub IsHeld : Local → StandingUpdate → Type 0
IsHeld l w = is_here l w.tx ≡ true → (is_there (found_at w.key l.records) ≡ true) × (has_lock w.tx w.key l.locks ≡ true)

-- how many of these writes are of transactions that pass, and how many such transactions have one
abbrev pub writes_by : (TxId → Bool) → List StandingUpdate → ℕ
writes_by test ws = length (filter (λ w. test w.tx) ws)

abbrev pub writers_by : (TxId → Bool) → List StandingUpdate → ℕ
writers_by test ws = length (filter test (writers ws))

-- how many records the undo of such transactions may write: a CLR or UNADD for each of their writes that stand, and an ABORT for each that has one
abbrev pub owed_for : (TxId → Bool) → List StandingUpdate → ℕ
owed_for test ws = writes_by test ws + writers_by test ws

abbrev pub owed_by : (TxId → Bool) → List LogRecord → ℕ
owed_by test log = owed_for test (standing log)

-- how many more that are after one more write: a CLR or UNADD, and an ABORT unless a write of its transaction stood before
abbrev pub owed_more : Bool → Option Write → ℕ
owed_more stood None = 0
owed_more stood (Some w) = cond stood 1 2

pub record IsSound (l : Local) (spare : ℕ) : Type 0 where
  -- each that depends on another has its part here
  pub successors : AllByRecursion (λ p. is_here l p.0 ≡ true) l.pairs
  pub writes : AllByRecursion (IsHeld l) (standing l.log)
  -- so much room is in the log: for a CLR or UNADD for each standing write of a part that is here, and an ABORT for each that has one
  pub room : owed_by (is_here l) l.log ≤ spare

-- no transaction has more than 1,024 predecessors without a COMMIT
abbrev pub FewUndecided : List LogRecord → List (TxId × TxId) → Type 0
FewUndecided log pairs = (t : TxId) → length (filter (λ p. not (committed_in log p)) (predecessors_of pairs t)) ≤ 1024

-- that, each ghost bears a lock, nobody has too many undecided predecessors, each record of the log has a spelling, and the COMMITs of the log are known
-- to the dependencies, each at its place
pub record IsKept (commits : Table ℕ) (l : Local) (spare : ℕ) : Type 0 where
  pub settled : AreSettled commits l.log
  pub sound : IsSound l spare
  pub ghosts : GhostsAreLocked l.locks l.records
  pub few : FewUndecided l.log l.pairs
  -- the records, and all that those to come are made of
  pub spelled : IsSpelled l

-- room beyond the undo of the parts that are here (a CLR or UNADD for each of their standing writes, and an ABORT for each that has one) never shrinks:
-- what was reserved for more stays reserved. The other way round it never grows: what was reserved for an undo that isn't wanted any more is given back
abbrev pub KeepsSpare : TxState → TxState → Type 0
KeepsSpare s t = s.room + owed_by (is_here t.local) (t.local).log ≤ t.room + owed_by (is_here s.local) (s.local).log

-- room for so many records beyond the undo of the parts that are here
abbrev pub HasSpare : ℕ → TxState → Type 0
HasSpare n s = n + owed_by (is_here s.local) (s.local).log ≤ s.room

-- the same, but for so many records that were written of what was reserved
abbrev pub SpendsSpare : ℕ → TxState → TxState → Type 0
SpendsSpare n s t = s.room + owed_by (is_here t.local) (t.local).log ≤ n + t.room + owed_by (is_here s.local) (s.local).log

-- exactly so many places of that room were used, by records that were written
abbrev pub UsesSpare : ℕ → TxState → TxState → Type 0
UsesSpare n s t = n + t.room + owed_by (is_here s.local) (s.local).log ≡ s.room + owed_by (is_here t.local) (t.local).log

-- without the room that is beyond so many records, beside the undo of the parts that are here, and beyond so many settled transactions
abbrev pub trimmed : ℕ → TxState → TxState
trimmed n s = record s { room = min s.room (n + owed_by (is_here s.local) (s.local).log); pairs_room = min s.pairs_room n }

-- whether a part may have operations: it is not known, or active
abbrev pub may_work : Option Stage → Bool
may_work None = true
may_work (Some Active) = true
may_work (Some Closed) = false
may_work (Some (Gone doom)) = false

-- what is written is locked: some need is on its record, or the record is the one that is inserted
abbrev pub has_need : ℕ → List Need → Bool
has_need k needs = list_any (λ n. anchor_same (At k) n.anchor) needs

abbrev pub IsCovered : List Need → Option Insert → Option Write → Type 0
IsCovered needs insert None = Unit {0}
IsCovered needs insert (Some w) = (has_need w.key needs ≡ true) ⊎ ((i : Insert) × (insert ≡ Some i) × (i.key ≡ w.key))
