use Rattle.std.proofs.Common.{◌∙◌, ap}
use Rattle.std.proofs.lemmas.Result.{IfOk-weaker}
use Rattle.log_analysis.specs.Writers.{count_in}
use Rattle.log_analysis.proofs.Writing.{writers_are}
use Rattle.log_analysis.proofs.writers.writers.Goals as goal

pub returns : goal.returns
returns c = IfOk-weaker c.writers_of.result _ _ (λ set e. e ∙ writers_are (count_in c.args.facts.now) c.args.records.now (λ t. ap (λ f. f.standing) (c.requires t))) c.writers_of.ensures
