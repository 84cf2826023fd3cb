use Rattle.std.proofs.Common.{◌≡◌, map}
use Rattle.clv_commands.proofs.Standbys.{firsts_until}
use Rattle.clv_commands.proofs.standing.keep_firsts.Given as goal

abbrev pub invariant-loop-shard : goal.invariant-loop-shard
invariant-loop-shard l = map (λ v. v.items) l.logs.items ≡ firsts_until l.shard 0 l.counts (map (λ v. v.items) l.fn.logs.items)
