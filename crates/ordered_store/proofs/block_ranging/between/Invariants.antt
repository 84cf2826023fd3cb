use Rattle.std.proofs.Common.{◌≡◌, ◌++◌, map, drop, Some}
use Rattle.clv_base.specs.Needs.{found_by, records_between}
use Rattle.ordered_store.specs.Blocks.{flat}
use Rattle.ordered_store.proofs.block_ranging.between.Given as goal

-- what was found, and what the blocks to come still have
abbrev pub invariant-loop-block : goal.invariant-loop-block
invariant-loop-block l = l.found.items ++ map (λ r. (r.0, found_by (Some r.1))) (records_between l.low l.high (flat (drop l.block-index l.block-items))) ≡ map (λ r. (r.0, found_by (Some r.1))) (records_between l.low l.high (flat l.blocks))
