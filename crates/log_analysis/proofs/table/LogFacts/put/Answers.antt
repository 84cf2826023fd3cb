use Rattle.std.proofs.Common.{◌≡◌, ◌∙◌, Some, rules}
use Rattle.std.proofs.lemmas.Result.{on_ok_weaker}
use Rattle.clv_base.specs.Logs.{own_tx}
use Rattle.log_analysis.specs.Facts.{known, facts_with}
use Rattle.log_analysis.proofs.Laws.Names.{at_owner}
use Rattle.log_analysis.proofs.table.LogFacts.put.Goals as goal

pub returns-in_ok-facts-in-Some-clause-set : goal.returns-in_ok-facts-in-Some-clause-set
returns-in_ok-facts-in-Some-clause-set c =
    let whose : own_tx c.args.r.now ≡ Some c.in-Some.tx = search rules in
    let row : c.in_ok-facts-in-Some.facts ≡ facts_with c.args.lsn c.args.r.now (known c.args.self.now c.in-Some.tx) = search rules in
    on_ok_weaker c.hold.result
    (λ set t. set t ∙ at_owner (known c.args.self.now) (λ u. facts_with c.args.lsn c.args.r.now (known c.args.self.now u)) c.args.r.now t c.in-Some.tx c.in_ok-facts-in-Some.facts whose row)
    c.hold.ensures.set
