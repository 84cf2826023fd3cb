use Rattle.std.proofs.Common.{◌≡◌, ◌++◌, drop}
use Rattle.clv_base.specs.Logs.{standing}
use Rattle.shard_recovery.specs.Winning.{wins_in, kept_writes}
use Rattle.shard_recovery.proofs.writes.gather_at.Given as goal

-- the older ones are there
abbrev pub invariant-loop-place : goal.invariant-loop-place
invariant-loop-place l = l.writes.items ≡ l.fn.first.items ++ kept_writes (wins_in l.log l.doubtful) (drop l.place (standing l.log))
