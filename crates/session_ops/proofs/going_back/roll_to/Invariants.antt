use Rattle.std.proofs.Common.{◌≡◌, suc}
use Rattle.cluster_turns.specs.Walkers.{IsSameWalker}
use Rattle.session_ops.specs.Standing.{IsActive}
use Rattle.session_ops.proofs.BackBelow.{SoFar}
use Rattle.session_ops.proofs.going_back.roll_to.Given as goal

abbrev pub invariant-loop-shard : goal.invariant-loop-shard
invariant-loop-shard g l = IsActive l.shards l.walker l.place × IsSameWalker l.fn.walker l.walker × SoFar l.shards l.fn.walker l.fn.place l.fn.upto l.shard l.walker l.place × (l.nth ≡ suc (l.fn.place).nth)
