use Rattle.std.proofs.Common.{◌≡◌, ◌≤◌, cond, None, drop}
use Rattle.clv_base.specs.declared.names.TxId.{TxId}
use Rattle.clv_base.specs.Orders.{tx_in, tx_get}
use Rattle.cascade_undo.proofs.waiting.drop_rows.Given as goal

abbrev pub invariant-loop-tx : goal.invariant-loop-tx
invariant-loop-tx l = record {
  rows : (t : TxId) → cond (tx_in t (drop l.tx-index l.set)) None (tx_get t (l.rows).rows) ≡ cond (tx_in t l.set) None (tx_get t (l.initial.rows).rows);
  room : (l.initial.rows).room ≤ (l.rows).room;
}
