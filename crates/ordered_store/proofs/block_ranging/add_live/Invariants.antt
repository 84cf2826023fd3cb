use Rattle.std.proofs.Common.{◌≡◌, ◌++◌, drop}
use Rattle.clv_base.specs.Needs.{live_pairs}
use Rattle.ordered_store.specs.Blocks.{flat}
use Rattle.ordered_store.proofs.block_ranging.add_live.Given as goal

-- what was added, and what the blocks to come still have
abbrev pub invariant-loop-block : goal.invariant-loop-block
invariant-loop-block l = l.pairs.items ++ live_pairs (flat (drop l.block-index l.blocks)) ≡ l.fn.pairs.items ++ live_pairs (flat l.blocks)
