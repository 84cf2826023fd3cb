use Rattle.std.proofs.Common.{sym, ◌∙◌}
use Rattle.log_rules.proofs.Steps.{settles_none, settles_on}
use Rattle.log_rules.proofs.writes.Writes.settle.Goals as goal

pub returns-in_default : goal.returns-in_default
returns-in_default c = settles_none c.args.self.now c.loop-step.self c.args.lsn c.args.tx c.loop-step._step c.loop-step.at c.loop-step.invariant c.loop-step-test.true (sym c.step.ensures ∙ c.in_default.is)

pub loop-step-preserved : goal.loop-step-preserved
loop-step-preserved c = settles_on c.args.self.now c.loop-step.self c.settle_at.new.self c.args.lsn c.args.tx c.loop-step._step c.loop-step.at c.in-Some.write c.loop-step.invariant c.loop-step-test.true (sym c.step.ensures ∙ c.in-Some.is)
    (record { records = c.settle_at.ensures.records; rows = c.settle_at.ensures.rows; tops = c.settle_at.ensures.tops; adds = c.settle_at.ensures.adds; values = c.settle_at.ensures.values; newest = c.settle_at.ensures.newest }) c.settle_at.ensures.shares
