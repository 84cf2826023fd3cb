use Rattle.std.proofs.Common.{map, ◌∙◌}
use Rattle.std.proofs.lemmas.Result.{IfOk-weaker}
use Rattle.log_rules.proofs.Committing.{commits_are}
use Rattle.log_rules.proofs.commits.committed.Goals as goal

pub returns : goal.returns
returns c = IfOk-weaker c.to_vec.result _ _ (λ txs e. e ∙ c.in_ok-set.ensures ∙ commits_are (map (λ l. l.items) c.args.logs.now)) c.to_vec.ensures
