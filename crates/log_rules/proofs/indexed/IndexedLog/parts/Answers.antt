use Rattle.std.proofs.Common.{ap, ◌∙◌}
use Rattle.clv_base.specs.Logs.{commit_lsn}
use Rattle.log_analysis.specs.Lists.{parts_at}
use Rattle.log_analysis.proofs.Laws.Whole.{parts_there}
use Rattle.log_rules.proofs.indexed.IndexedLog.parts.Goals as goal

pub returns : goal.returns
returns c =
    c.parts_at.ensures ∙ ap (λ f. parts_at c.self.inside.records.now f.commit) c.says.ensures ∙ ap (λ log. parts_at log (commit_lsn c.args.self.now c.args.tx)) c.self.view_is
    ∙ parts_there c.args.self.now c.args.tx
