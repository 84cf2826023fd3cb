-- Those so far, and those of the rest, are all.
use Rattle.std.proofs.Common.{◌≡◌, ◌++◌, drop}
use Rattle.std.specs.List.{filter}
use Rattle.clv_base.specs.Facts.{facts_of, has_durable_commit}
use Rattle.shard_core.proofs.shard.ShardCore.durable_of.Given as goal

abbrev pub invariant-loop-tx : goal.invariant-loop-tx
invariant-loop-tx g l = l.list.items ++ filter (λ tx. has_durable_commit (facts_of l.self.shard tx)) (drop l.tx-index l.txs) ≡ filter (λ tx. has_durable_commit (facts_of l.self.shard tx)) l.txs
