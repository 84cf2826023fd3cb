use Rattle.std.proofs.Common.{◌≡◌, ◌≤◌, take, length}
use Rattle.shard_recovery.proofs.copying.copy_shards.Given as goal

abbrev pub invariant-loop-shard : goal.invariant-loop-shard
invariant-loop-shard l = (l.shards ≡ take l.shard-index l.shard-items) × (length l.shard-items ≤ 15)
