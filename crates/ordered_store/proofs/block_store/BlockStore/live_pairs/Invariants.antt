use Rattle.std.proofs.Common.{◌≡◌, ◌++◌, drop, map}
use Rattle.ordered_store.specs.Blocks.{flat}
use Rattle.ordered_store.specs.InTurn.{live_in_turn}
use Rattle.ordered_store.proofs.block_store.BlockStore.live_pairs.Given as goal

-- what was added, and what the stores to come still have
abbrev pub invariant-loop-store : goal.invariant-loop-store
invariant-loop-store l = l.pairs.items ++ live_in_turn (map (λ s. flat s.blocks.items) (drop l.store-index l.stores)) ≡ live_in_turn (map (λ s. flat s.blocks.items) l.stores)
