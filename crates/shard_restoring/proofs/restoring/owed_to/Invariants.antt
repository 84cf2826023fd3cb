use Rattle.std.proofs.Common.{◌≡◌, take}
use Rattle.txn_core.proofs.Laws.{total_of}
use Rattle.shard_restoring.proofs.restoring.owed_to.Given as goal

abbrev pub invariant-loop-tx : goal.invariant-loop-tx
invariant-loop-tx l = l.count ≡ total_of l.buffer.records (take l.tx-index l.txs)
