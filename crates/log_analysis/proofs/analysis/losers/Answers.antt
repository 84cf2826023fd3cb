use Rattle.std.proofs.Common.{◌≡◌, not, ap, ◌∙◌}
use Rattle.std.proofs.lemmas.Result.{IfOk-weaker}
use Rattle.std.specs.List.{filter}
use Rattle.clv_base.specs.Logs.{writers, standing}
use Rattle.log_analysis.specs.Doubt.{settles}
use Rattle.log_analysis.proofs.Doubted.{losers_are}
use Rattle.log_analysis.proofs.analysis.losers.Goals as goal

pub returns : goal.returns
returns c =
    let listed : c.as_slice.result.now ≡ writers (standing c.args.records.now) = c.as_slice.ensures.value ∙ c.in_ok-writers-2.ensures ∙ c.in_ok-writers.ensures in
    IfOk-weaker c.without_winners.result _ _
    (λ losers e. e ∙ ap (λ d. filter (λ t. not (settles c.args.facts.now d t)) c.as_slice.result.now) c.requires.in_doubt ∙ ap (filter _) listed ∙ losers_are c.args.facts.now c.args.records.now c.requires.facts c.args.shard)
    c.without_winners.ensures
