use Rattle.std.proofs.Common.{ℕ, nat_le, rules, of_calls}
use Rattle.std.proofs.lemmas.List.Sorted.{IsPartitionPoint-from_clause}
use Rattle.script_lang.proofs.Keeping.{partitioned, point_is_count}
use Rattle.script_lang.proofs.savepoints.count_up_to.Goals as goal

pub returns-clause-count : goal.returns-clause-count
returns-clause-count c = let number = c.args.number in let ss = c.args.standing.now in
    point_is_count number ss c.partition_point.result c.partition_point.ensures.bound
    (IsPartitionPoint-from_clause (λ (s : ℕ × ℕ). nat_le s.0 number) ss c.partition_point.result c.partition_point.ensures.partitioned (partitioned number 0 ss c.requires.0 c.requires.1) (λ a r f h. search (rules, of_calls)))
