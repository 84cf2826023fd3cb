use Rattle.std.proofs.Common.{◌∙◌}
use Rattle.std.proofs.lemmas.Result.{IfOk-weaker}
use Rattle.log_analysis.proofs.Doubted.{homes_are}
use Rattle.log_analysis.proofs.doubt.with_homes.Goals as goal

pub returns : goal.returns
returns c = IfOk-weaker c.home_rows.result _ _ (λ homes e. e ∙ homes_are c.args.facts.now c.args.records.now c.requires c.args.txs.now) c.home_rows.ensures
