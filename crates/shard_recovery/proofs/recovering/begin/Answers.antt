use Rattle.std.proofs.Common.{◌≡◌, ap, sym, ◌∙◌, subst, map}
use Rattle.clv_base.specs.Logs.{in_doubt}
use Rattle.clv_base.specs.Restarts.{losers, homes_of}
use Rattle.law_base.proofs.Sets.{losers_rise}
use Rattle.shard_recovery.proofs.recovering.begin.Goals as goal
use Rattle.law_base.proofs.Names.{Rise as Rises}
use Rattle.law_base.proofs.Logs.{firsts_are}

pub restart_by-requires-clause-rising : goal.restart_by-requires-clause-rising
restart_by-requires-clause-rising g c =
    let are : c.deref-3.result.now ≡ losers c.args.shard c.args.records.items =
    c.deref-3.ensures.value ∙ c.in_ok-losers.ensures.losers ∙ ap (losers c.args.shard) c.deref.ensures.value in
    subst Rises (sym are) (losers_rise c.args.shard c.args.records.items)

pub returns-clause-records : goal.returns-clause-records
returns-clause-records g c =
    let are : c.deref-4.result.now ≡ in_doubt c.args.shard c.args.records.items =
    c.deref-4.ensures.value ∙ c.in_ok-doubtful.ensures ∙ ap (map (λ d. d.0)) (c.deref-2.ensures.value ∙ c.in_ok-losers.ensures.in_doubt)
    ∙ ap (λ rs. map (λ d. d.0) (homes_of rs (in_doubt c.args.shard rs))) c.deref.ensures.value ∙ firsts_are c.args.records.items (in_doubt c.args.shard c.args.records.items) in
    c.in_ok-buffer.ensures.records c.args.shard are
