use Rattle.std.proofs.Common.{◌≡◌, take}
use Rattle.txn_core.proofs.Totals.{total_of}
use Rattle.txn_core.proofs.trimming.owed_to.Given as goal

abbrev pub invariant-loop-tx : goal.invariant-loop-tx
invariant-loop-tx l = l.count ≡ total_of l.buffer.records (take l.tx-index l.txs)
