use Rattle.std.proofs.Common.{◌≡◌, drop}
use Rattle.clv_base.specs.declared.names.TxId.{TxId}
use Rattle.tx_table.specs.Lists.{list_in}
use Rattle.cascade_undo.specs.Pairs.{left_by}
use Rattle.cascade_undo.proofs.pairs.leave_each.Given as goal

abbrev pub invariant-loop-pred : goal.invariant-loop-pred
invariant-loop-pred l =
    (p : TxId) → left_by l.fn.tx (drop l.pred-index l.preds) p (list_in p (l.turned).lists) ≡ left_by l.fn.tx l.preds p (list_in p (l.initial.turned).lists)
