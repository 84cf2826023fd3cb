use Rattle.std.proofs.Common.{is_some, ap, ◌∙◌}
use Rattle.log_analysis.proofs.Laws.Whole.{prepare_there}
use Rattle.log_rules.proofs.indexed.IndexedLog.is_prepared.Goals as goal

pub returns : goal.returns
returns c = c.is_some.ensures ∙ ap (λ f. is_some f.prepare) c.says.ensures ∙ prepare_there c.args.self.now c.args.tx
