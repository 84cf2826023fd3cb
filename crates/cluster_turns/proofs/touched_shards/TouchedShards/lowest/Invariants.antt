use Rattle.std.proofs.Common.{◌≡◌, drop, length}
use Rattle.clv_base.specs.Arrays.{present_from}
use Rattle.cluster_turns.proofs.touched_shards.TouchedShards.lowest.Given as goal

abbrev pub invariant-loop-shard : goal.invariant-loop-shard
invariant-loop-shard l = (present_from l.shard (drop l.shard l.self-inside.epochs) ≡ l.self) × (length l.self-inside.epochs ≡ 16)
