use Rattle.std.proofs.Common.{◌≡◌, drop}
use Rattle.shard_restoring.specs.Opened.{close_each}
use Rattle.shard_restoring.proofs.locks.close_all.Given as goal

abbrev pub invariant-loop-tx : goal.invariant-loop-tx
invariant-loop-tx g l = close_each (drop l.tx-index l.txs) (g.L.Locks.rows l.locks) ≡ close_each l.txs (g.L.Locks.rows l.initial.locks)
