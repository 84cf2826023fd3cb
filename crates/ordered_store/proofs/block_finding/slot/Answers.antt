use Rattle.std.proofs.Common.{◌∙◌, ◌-◌, length, take, drop, nat_le, rules, of_calls}
use Rattle.std.proofs.lemmas.List.Sorted.{IsPartitionPoint-from_clause}
use Rattle.ordered_store.specs.declared.block.Block.{Block}
use Rattle.ordered_store.proofs.Chains.{point_reached, reached_slot, parted_reached}
use Rattle.ordered_store.proofs.block_finding.slot.Goals as goal

pub returns-clause-slot : goal.returns-clause-slot
returns-clause-slot c = let key = c.args.key in let blocks = c.args.blocks.now in let rest = take (length blocks - 1) (drop 1 blocks) in
    point_reached key rest c.partition_point.result c.partition_point.ensures.bound
    (IsPartitionPoint-from_clause (λ (b : Block). nat_le b.fence key) rest c.partition_point.result c.partition_point.ensures.partitioned (parted_reached key blocks c.requires) (λ a r f h. search (rules, of_calls)))
    ∙ reached_slot key blocks
