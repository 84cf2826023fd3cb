use Rattle.std.proofs.Common.{ap, ◌∙◌}
use Rattle.log_analysis.specs.Facts.{facts_of}
use Rattle.log_rules.proofs.indexed.IndexedLog.says.Goals as goal

pub returns : goal.returns
returns c = c.get.ensures ∙ c.self.invariant c.args.tx ∙ ap (λ log. facts_of log c.args.tx) c.self.view_is
