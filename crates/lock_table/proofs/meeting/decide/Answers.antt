use Rattle.std.proofs.Common.{arith, ◌∙◌}
use Rattle.lock_table.proofs.Oldest.{nothing_left, next_row, decided}
use Rattle.lock_table.proofs.meeting.decide.Goals as goal

pub loop-left-init : goal.loop-left-init
loop-left-init c = record { within = omega arith; oldest = nothing_left c.args.tx c.args.birth c.args.needs.now c.args.rows.now }

pub loop-left-preserved : goal.loop-left-preserved
loop-left-preserved c = let inv = c.loop-left.invariant in record {
  within = omega arith;
  oldest = next_row c.args.tx c.args.birth c.args.needs.now c.args.rows.now c.loop-left.left c.loop-left-test.true inv.within _ _ _ _ _ inv.oldest c.with-oldest.ensures;
}

pub returns : goal.returns
returns c = c.decision.ensures ∙ decided c.args.tx c.args.birth c.args.needs.now c.args.rows.now c.loop-left.left c.loop-left-test.false _ _ c.loop-left.invariant.oldest
