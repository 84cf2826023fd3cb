use Rattle.std.proofs.Common.{sym, ◌∙◌, ℕ, Option, nat_lt, rules, of_calls}
use Rattle.std.proofs.lemmas.List.Sorted.{IsPartitionPoint-from_clause}
use Rattle.clv_base.specs.declared.values.Value.{Value as ValueType}
use Rattle.ordered_store.proofs.Rising.{rises_from, partitioned, point_is_place, count_below-lows}
use Rattle.ordered_store.proofs.rows.place_of.Goals as goal

pub returns-clause-place : goal.returns-clause-place
returns-clause-place c = let key = c.args.key in let rows = c.args.rows.now in
    point_is_place key rows c.partition_point.result c.partition_point.ensures.bound
    (IsPartitionPoint-from_clause (λ (r : ℕ × Option ValueType). nat_lt r.0 key) rows c.partition_point.result c.partition_point.ensures.partitioned (partitioned key rows (rises_from rows c.requires)) (λ a r f h. search (rules, of_calls)))
    ∙ sym (count_below-lows key rows)
