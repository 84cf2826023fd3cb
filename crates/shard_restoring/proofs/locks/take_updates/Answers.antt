use Rattle.std.proofs.Common.{arith}
use Rattle.log_analysis.proofs.Laws.Standing.{lsn_inside}
use Rattle.clv_base.specs.Logs.{standing}
use Rattle.shard_restoring.specs.Opened.{open_locks}
use Rattle.shard_restoring.proofs.Opening.{next_taken}
use Rattle.shard_restoring.proofs.locks.take_updates.Goals as goal

pub bounds-log-lsn : goal.bounds-log-lsn
bounds-log-lsn g c = lsn_inside c.args.log.now c.args.lsns.now c.loop-lsn.lsn-index c.requires c.loop-lsn-test.true

pub offset_bounds-log-lsn : goal.offset_bounds-log-lsn
offset_bounds-log-lsn g c = let inside = lsn_inside c.args.log.now c.args.lsns.now c.loop-lsn.lsn-index c.requires c.loop-lsn-test.true in let fine = c.well_formed in omega arith

pub loop-lsn-preserved : goal.loop-lsn-preserved
loop-lsn-preserved g c =
    next_taken c.args.doubtful.now c.args.log.now c.args.lsns.now c.loop-lsn.lsn-index c.index-log-lsn.result (g.L.Locks.rows c.loop-lsn.locks) (g.L.Locks.rows c.take_update.new.locks)
    (open_locks c.args.doubtful.now (standing c.args.log.now) (g.L.Locks.rows c.args.locks.now)) c.requires c.loop-lsn-test.true c.index-log-lsn.is c.loop-lsn.invariant c.in_ok-take_update.ensures
