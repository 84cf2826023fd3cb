use Rattle.std.proofs.Common.{◌+◌, take, map, sym, subst}
use Rattle.log_analysis.specs.Facts.{Knows, KnowAll}
use Rattle.log_analysis.proofs.Laws.Tables.{know_more}
use Rattle.log_rules.proofs.agreement.facts_of.Goals as goal

pub loop-log-preserved : goal.loop-log-preserved
loop-log-preserved c =
    let vs = c.args.logs.now in let i = c.loop-log.log-index in let v = c.log-item.result in let m = c.in_ok-known.known in
    subst (λ ms. KnowAll ms (map (λ w. w.items) (take (i + 1) vs))) (sym c.in_ok-push.ensures.items)
    (know_more c.loop-log.facts.items vs i m v c.loop-log-test.true c.log-item.is c.loop-log.invariant (subst (Knows m) c.as_slice.ensures.value c.in_ok-known.ensures))
