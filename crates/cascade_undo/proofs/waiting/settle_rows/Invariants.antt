use Rattle.std.proofs.Common.{◌≡◌, drop}
use Rattle.clv_base.specs.declared.names.TxId.{TxId}
use Rattle.clv_base.specs.Orders.{tx_get}
use Rattle.cascade_undo.specs.Counts.{settled_through}
use Rattle.cascade_undo.proofs.waiting.settle_rows.Given as goal

abbrev pub invariant-loop-tx : goal.invariant-loop-tx
invariant-loop-tx l = record {
  rows : (t : TxId) → settled_through l.fn.lsn (drop l.tx-index l.succs) t (tx_get t (l.rows).rows) ≡ settled_through l.fn.lsn l.succs t (tx_get t (l.initial.rows).rows);
  room : (l.rows).room ≡ (l.initial.rows).room;
}
