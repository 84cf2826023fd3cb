use Rattle.std.proofs.Common.{◌≡◌, drop}
use Rattle.clv_base.specs.Logs.{standing}
use Rattle.shard_restoring.specs.Opened.{open_locks}
use Rattle.shard_restoring.proofs.locks.take_updates.Given as goal

abbrev pub invariant-loop-lsn : goal.invariant-loop-lsn
invariant-loop-lsn g l = open_locks l.doubtful (drop l.lsn-index (standing l.log)) (g.L.Locks.rows l.locks) ≡ open_locks l.doubtful (standing l.log) (g.L.Locks.rows l.initial.locks)
