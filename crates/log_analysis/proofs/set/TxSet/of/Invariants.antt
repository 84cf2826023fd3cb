use Rattle.std.proofs.Common.{◌≡◌, take}
use Rattle.clv_base.specs.declared.names.TxId.{TxId as Tx}
use Rattle.clv_base.specs.Orders.{tx_in}
use Rattle.log_analysis.proofs.set.TxSet.of.Given as goal

abbrev pub invariant-loop-tx : goal.invariant-loop-tx
invariant-loop-tx l = (t : Tx) → tx_in t l.set ≡ tx_in t (take l.tx-index l.txs)
