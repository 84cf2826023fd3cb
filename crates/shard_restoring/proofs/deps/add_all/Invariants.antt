use Rattle.std.proofs.Common.{◌≡◌, ◌++◌, drop}
use Rattle.shard_restoring.proofs.deps.add_all.Given as goal

abbrev pub invariant-loop-pair : goal.invariant-loop-pair
invariant-loop-pair l = (l.deps.pairs ++ drop l.pair-index l.pairs ≡ l.pairs) × (l.deps.commits ≡ l.initial.deps.commits)
