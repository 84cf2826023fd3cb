use Rattle.std.proofs.Common.{◌≡◌, drop}
use Rattle.shard_recovery.specs.Winning.{begun}
use Rattle.shard_recovery.proofs.writes.begin.Given as goal

-- the later ones are there
abbrev pub invariant-loop-place : goal.invariant-loop-place
invariant-loop-place l = l.writes.items ≡ begun (drop l.place l.base)
