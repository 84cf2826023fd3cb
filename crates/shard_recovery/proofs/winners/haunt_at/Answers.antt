use Rattle.std.proofs.Common.{drop, ap, ◌∙◌, arith}
use Rattle.clv_base.specs.Logs.{standing}
use Rattle.clv_base.specs.Restarts.{with_ghosts}
use Rattle.log_analysis.proofs.Laws.Standing.{lsn_inside}
use Rattle.shard_recovery.proofs.Folded.{ghosts_step}
use Rattle.shard_recovery.proofs.winners.haunt_at.Goals as goal

pub bounds-log-lsns : goal.bounds-log-lsns
bounds-log-lsns g c = lsn_inside c.args.log.now c.args.lsns.now c.loop-place.place c.requires c.loop-place-test.true

pub offset_bounds-log-lsns : goal.offset_bounds-log-lsns
offset_bounds-log-lsns g c =
    let inside = lsn_inside c.args.log.now c.args.lsns.now c.loop-place.place c.requires c.loop-place-test.true in let fine = c.well_formed in omega arith

pub loop-place-preserved : goal.loop-place-preserved
loop-place-preserved g c =
    ghosts_step c.args.doubtful.now c.args.log.now c.args.lsns.now c.loop-place.place c.index-log-lsns.result
    (g.S.Store.records c.reserve.new.self) (g.S.Store.records c.haunt_one.new.store) (g.S.Store.records c.args.store.now)
    c.requires c.loop-place-test.true c.index-log-lsns.is (ap (with_ghosts c.args.doubtful.now (drop c.loop-place.place (standing c.args.log.now))) c.reserve.ensures.records ∙ c.loop-place.invariant) c.haunt_one.ensures.records
