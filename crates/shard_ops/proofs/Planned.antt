-- The state after a granted operation, by its plan.
use Rattle.std.proofs.Common.{◌≡◌, ℕ, List, Option, Some, None, refl, sym, subst}
use Rattle.clv_base.specs.declared.changes.Change.{Change}
use Rattle.clv_base.specs.declared.changes.Change.TheVariants.{Sets, Adds}
use Rattle.clv_base.specs.declared.values.Value.{Value as ValueType}
use Rattle.clv_base.specs.declared.values.Value.TheVariants.{Num, Bytes}
use Rattle.clv_base.specs.declared.names.TxId.{TxId}
use Rattle.clv_base.specs.declared.names.Birth.{Birth}
use Rattle.clv_base.specs.declared.ops.Op.{Op}
use Rattle.clv_base.specs.declared.ops.Op.TheVariants.{Get, Put, Del, Scan, Add}
use Rattle.clv_base.specs.declared.modes.Need.{Need}
use Rattle.clv_base.specs.Orders.{tx_get}
use Rattle.clv_base.specs.Locks.{take_all}
use Rattle.clv_base.specs.Needs.{key_of, found_at, inserts, writes_of, value_at, needs_of}
use Rattle.clv_base.specs.State.{Local}
use Rattle.clv_base.specs.OneShard.{written, inserted_locks, new_part, add_pairs, violated_here}
use Rattle.shard_ops.specs.Planned.{insert_by, write_by}
use Rattle.shard_ops.specs.Effects.{performed_by, IsPerformedByPlan}

locked_by : TxId → Birth → List Need → List TxId → Option ℕ → Local → Local
locked_by tx birth needs preds new l =
    record l {
      locks = inserted_locks tx birth l.records new (take_all tx birth needs l.locks);
      parts = new_part tx birth (tx_get tx l.parts) l.parts;
      pairs = add_pairs tx preds l.pairs;
    }

-- a change at a key, if there is one
abbrev change_at : ℕ → Option Change → Option (ℕ × Change)
change_at key None = None
change_at key (Some c) = Some (key, c)

-- what an operation writes lies at its key
writes_at_key : (op : Op) (before : Option ValueType) → (c : Option Change) × (writes_of op before ≡ change_at (key_of op) c)
writes_at_key (Get k) before = (None, refl)
writes_at_key (Put k v) before = (Some (Sets before (Some v)), refl)
writes_at_key (Del k) (Some v) = (Some (Sets (Some v) None), refl)
writes_at_key (Del k) None = (None, refl)
writes_at_key (Scan lo hi) before = (None, refl)
writes_at_key (Add k n) (Some (Num v)) = (Some (Adds n), refl)
writes_at_key (Add k n) (Some (Bytes b)) = (None, refl)
writes_at_key (Add k n) None = (None, refl)

by_cases :
    (tx : TxId) (birth : Birth) (needs : List Need) (preds : List TxId) (new : Option ℕ) (key : ℕ) (change : Option Change) (l : Local)
    → written tx (change_at key change) (locked_by tx birth needs preds new l)
    ≡ performed_by tx birth needs (insert_by l.records new) (write_by (value_at key l.records) (change_at key change)) preds l
unfolding locked_by
by_cases tx birth needs preds None key None l = refl
by_cases tx birth needs preds None key (Some c) l = refl
by_cases tx birth needs preds (Some k) key None l = refl
by_cases tx birth needs preds (Some k) key (Some c) l = refl

pub performed_by_plan : IsPerformedByPlan
unfolding locked_by
performed_by_plan tx birth op l =
    let needs = needs_of op l.records in
    let preds = violated_here l tx op in
    let new = inserts op (found_at (key_of op) l.records) in
    let c = writes_at_key op (value_at (key_of op) l.records) in
    subst
    (λ w. written tx w (locked_by tx birth needs preds new l) ≡ performed_by tx birth needs (insert_by l.records new) (write_by (value_at (key_of op) l.records) w) preds l)
    (sym c.1)
    (by_cases tx birth needs preds new (key_of op) c.0 l)
