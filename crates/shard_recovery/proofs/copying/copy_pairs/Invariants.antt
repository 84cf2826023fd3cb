use Rattle.std.proofs.Common.{◌≡◌, take}
use Rattle.shard_recovery.proofs.copying.copy_pairs.Given as goal

abbrev pub invariant-loop-pair : goal.invariant-loop-pair
invariant-loop-pair l = l.pairs.items ≡ take l.pair-index l.list
