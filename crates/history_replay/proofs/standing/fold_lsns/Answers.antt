use Rattle.std.proofs.Common.{◌-◌, arith}
use Rattle.history_replay.specs.Transactions.{has_member}
use Rattle.log_analysis.proofs.Laws.Standing.{lsn_inside}
use Rattle.history_replay.proofs.Folding.{fold_step}
use Rattle.history_replay.proofs.standing.fold_lsns.Goals as goal

pub bounds-log-lsns : goal.bounds-log-lsns
bounds-log-lsns c = lsn_inside c.args.log.now c.args.lsns.now (c.loop-place.place - 1) c.requires (omega arith)

pub offset_bounds-log-lsns : goal.offset_bounds-log-lsns
offset_bounds-log-lsns c = let inside = lsn_inside c.args.log.now c.args.lsns.now (c.loop-place.place - 1) c.requires (omega arith) in let fine = c.well_formed in omega arith

pub loop-place-preserved : goal.loop-place-preserved
loop-place-preserved c =
    fold_step (has_member c.args.set.now) c.args.log.now c.args.lsns.now c.loop-place.place c.index-log-lsns.result c.args.pairs.now c.loop-place.pairs c.fold_one.new.pairs
    c.requires (omega arith) (omega arith) c.index-log-lsns.is c.loop-place.invariant c.in_ok-fold_one.ensures
