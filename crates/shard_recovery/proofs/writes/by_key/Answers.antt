use Rattle.std.proofs.Common.{rules, [], Some, ap, ◌∙◌}
use Rattle.std.proofs.lemmas.List.Sorted.{IsNonDecreasingBy-from_sort_by_key, answers_always}
use Rattle.clv_base.specs.Logs.{standing, base_of}
use Rattle.clv_base.specs.Maps.{with_pairs}
use Rattle.log_analysis.specs.Lists.{pairs_at}
use Rattle.log_analysis.proofs.Laws.Bases.{base_first}
use Rattle.shard_recovery.specs.Winning.{wins_in, kept_writes, writes_after}
use Rattle.shard_recovery.proofs.Sorted.{kept_fold, begun_fold, sorted_writes}
use Rattle.shard_recovery.proofs.writes.by_key.Goals as goal

pub returns-clause-rising : goal.returns-clause-rising
returns-clause-rising c = IsNonDecreasingBy-from_sort_by_key (λ w. w.key) _ c.in_ok-sort_by_key.ensures.sorted (λ a r q k. search rules)

pub returns-clause-map : goal.returns-clause-map
returns-clause-map c =
    sorted_writes _ _ (c.in_ok-sort_by_key.ensures.stable (λ w. w.key) (answers_always _ _ _ (λ f a r g h. search rules)))
    ∙ ap (λ ws. writes_after ws []) c.in_ok-writes.ensures
    ∙ begun_fold (pairs_at c.args.log.now (Some 0)) (kept_writes (wins_in c.args.log.now c.args.doubtful.now) (standing c.args.log.now)) []
    ∙ ap (λ base. writes_after (kept_writes (wins_in c.args.log.now c.args.doubtful.now) (standing c.args.log.now)) (with_pairs base [])) (base_first c.args.log.now)
    ∙ kept_fold (wins_in c.args.log.now c.args.doubtful.now) (standing c.args.log.now) (with_pairs (base_of c.args.log.now) [])
