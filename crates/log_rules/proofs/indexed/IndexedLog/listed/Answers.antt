use Rattle.std.proofs.Common.{ap, ◌∙◌}
use Rattle.clv_base.specs.Logs.{prepare_lsn}
use Rattle.log_analysis.specs.Lists.{listed_at}
use Rattle.log_analysis.proofs.Laws.Whole.{listed_there}
use Rattle.log_rules.proofs.indexed.IndexedLog.listed.Goals as goal

pub returns : goal.returns
returns c =
    c.listed_at.ensures ∙ ap (λ f. listed_at c.self.inside.records.now f.prepare) c.says.ensures ∙ ap (λ log. listed_at log (prepare_lsn c.args.self.now c.args.tx)) c.self.view_is
    ∙ listed_there c.args.self.now c.args.tx
