use Rattle.std.proofs.Common.{◌≡◌, true, Some, rules}
use Rattle.log_rules.specs.Writes.{step_at}
use Rattle.log_rules.specs.Rules.{is_clear_under}
use Rattle.log_rules.proofs.Steps.{all_on}
use Rattle.log_rules.proofs.index.Index.covers_only.Goals as goal

pub loop-step-preserved : goal.loop-step-preserved
loop-step-preserved c =
    let is : step_at c.args.self.now.writes c.loop-step.at ≡ Some c.in-Some.w = search rules in
    let own : is_clear_under c.args.self.now c.args.tx c.args.listed.now c.in-Some.w ≡ true = search rules in
    all_on c.args.self.now c.args.tx c.args.listed.now c.args.lsn c.args.lsn c.loop-step._step c.loop-step.at _ c.loop-step.invariant c.loop-step-test.true c.in-Some.w is own
