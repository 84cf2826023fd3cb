use Rattle.std.proofs.Common.{◌≡◌, take}
use Rattle.clv_base.specs.declared.names.TxId.{TxId as Tx}
use Rattle.clv_base.specs.Orders.{tx_in}
use Rattle.history_replay.specs.Transactions.{has_member}
use Rattle.history_replay.proofs.transactions.TxSet.of.Given as goal

abbrev pub invariant-loop-tx : goal.invariant-loop-tx
invariant-loop-tx l = (t : Tx) → has_member l.set t ≡ tx_in t (take l.tx-index l.txs)
