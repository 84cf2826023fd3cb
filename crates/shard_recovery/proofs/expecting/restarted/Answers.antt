use Rattle.std.proofs.Common.{◌≡◌, sym, ◌∙◌, ap, subst}
use Rattle.clv_base.specs.Restarts.{losers}
use Rattle.law_base.proofs.Sets.{losers_rise}
use Rattle.shard_recovery.proofs.expecting.restarted.Goals as goal
use Rattle.law_base.proofs.Names.{Rise as Rises}

pub restart-requires-clause-rising : goal.restart-requires-clause-rising
restart-requires-clause-rising c =
    let are : c.deref-2.result.now ≡ losers c.args.shard c.args.log.now =
    c.deref-2.ensures.value ∙ c.in_ok-analysis.ensures.losers ∙ ap (losers c.args.shard) (c.deref.ensures.value ∙ c.in_ok-found.ensures) in
    subst Rises (sym are) (losers_rise c.args.shard c.args.log.now)
