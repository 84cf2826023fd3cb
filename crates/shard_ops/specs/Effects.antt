-- What a granted operation does to each part of a shard's state, by what it needs, inserts and writes.
use Rattle.std.specs.Prelude.{◌≡◌, ℕ, ◌+◌, ◌<◌, ◌≤◌, IsTrue, cond, List, [], ◌∷◌, ◌++◌, length, Option, Some, None}
use Rattle.clv_base.specs.declared.values.Value.{Value as ValueType}
use Rattle.clv_base.specs.declared.names.TxId.{TxId}
use Rattle.clv_base.specs.declared.names.Birth.{Birth}
use Rattle.clv_base.specs.declared.ops.Op.{Op}
use Rattle.clv_base.specs.declared.logs.LogRecord.{LogRecord}
use Rattle.clv_base.specs.declared.modes.Part.TheVariants.{X}
use Rattle.clv_base.specs.declared.modes.Anchor.{Anchor}
use Rattle.clv_base.specs.declared.modes.Anchor.TheVariants.{At}
use Rattle.clv_base.specs.declared.modes.Need.{Need}
use Rattle.clv_base.specs.Orders.{tx_get}
use Rattle.clv_base.specs.Modes.{on_key}
use Rattle.clv_base.specs.Locks.{Locks, take_all, split_gap}
use Rattle.clv_base.specs.Needs.{Records, need, needs_of, record_set, found_at, is_there}
use Rattle.clv_base.specs.State.{Local}
use Rattle.clv_base.specs.OneShard.{update_of, new_part, add_pairs, violated_here, performed}
use Rattle.lock_table.specs.Rows.{gaps_held, anchors_of}
use Rattle.shard_ops.specs.declared.plan.Insert.{Insert}
use Rattle.shard_ops.specs.declared.plan.Write.{Write}
use Rattle.shard_ops.specs.Planned.{insert_of, write_of}

-- the lock on a record that is inserted
abbrev pub new_key : ℕ → List Need
new_key k = need (At k) (on_key X) ∷ []

-- what is needed is locked; a record that is inserted gets copies of the gap parts of its lower anchor, and a lock on its key
abbrev pub locks_after : TxId → Birth → List Need → Option Insert → Locks → Locks
locks_after tx birth needs None locks = take_all tx birth needs locks
locks_after tx birth needs (Some i) locks = take_all tx birth (new_key i.key) (split_gap i.lower (At i.key) (take_all tx birth needs locks))

-- room for these locks, by the room that there is for a transaction's locks on some anchors
abbrev pub HasLockRoom : (TxId → List Anchor → ℕ) → TxId → List Need → Option Insert → Locks → Type 0
HasLockRoom room tx needs None locks = length needs ≤ room tx (anchors_of needs)
HasLockRoom room tx needs (Some i) locks =
    (length needs ≤ room tx (anchors_of needs)) × (length needs + (gaps_held i.lower locks + length needs) + 1 ≤ room tx (At i.key ∷ []))

abbrev pub records_after : Option Write → Records → Records
records_after None rs = rs
records_after (Some w) rs = record_set w.key w.after rs

abbrev pub log_after : TxId → Option Write → List LogRecord → List LogRecord
log_after tx None log = log
log_after tx (Some w) log = log ++ update_of tx w.key w.change ∷ []

-- how many records it writes into the log
abbrev pub record_count : Option Write → ℕ
record_count None = 0
record_count (Some w) = 1

-- how many records more there are after a write at the key: one where none stands there
abbrev pub new_at : ℕ → Records → ℕ
new_at k rs = cond (is_there (found_at k rs)) 0 1

abbrev pub new_records : Option Write → Records → ℕ
new_records None rs = 0
new_records (Some w) rs = new_at w.key rs

-- a value wants room for a record; a delete wants the record
abbrev pub CanSet : ℕ → Option ValueType → ℕ → Records → Type 0
CanSet k (Some v) room rs = 0 < room
CanSet k None room rs = IsTrue (is_there (found_at k rs))

abbrev pub CanWrite : Option Write → ℕ → Records → Type 0
CanWrite None room rs = Unit {0}
CanWrite (Some w) room rs = CanSet w.key w.after room rs

-- the state with all of it
abbrev pub performed_by : TxId → Birth → List Need → Option Insert → Option Write → List TxId → Local → Local
performed_by tx birth needs insert write preds l =
    record l {
      records = records_after write l.records;
      locks = locks_after tx birth needs insert l.locks;
      parts = new_part tx birth (tx_get tx l.parts) l.parts;
      pairs = add_pairs tx preds l.pairs;
      log = log_after tx write l.log;
    }

-- the state after a granted operation is this one, for what the operation needs, inserts and writes
abbrev pub IsPerformedByPlan : Type 0
IsPerformedByPlan =
    (tx : TxId) (birth : Birth) (op : Op) (l : Local)
    → performed tx birth op l
    ≡ performed_by tx birth (needs_of op l.records) (insert_of op l.records) (write_of op l.records) (violated_here l tx op) l
