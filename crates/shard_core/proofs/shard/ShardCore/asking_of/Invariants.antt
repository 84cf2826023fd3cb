-- Those so far, and those of the rest, are all.
use Rattle.std.proofs.Common.{◌≡◌, ◌++◌, drop}
use Rattle.std.specs.List.{filter}
use Rattle.clv_base.specs.Facts.{facts_of}
use Rattle.clv_base.specs.Orders.{tx_get}
use Rattle.two_phase_commit.specs.Voting.{asks_by}
use Rattle.shard_core.proofs.shard.ShardCore.asking_of.Given as goal

abbrev pub invariant-loop-tx : goal.invariant-loop-tx
invariant-loop-tx g l = l.list.items ++ filter (λ tx. asks_by (facts_of l.self.shard tx) (tx_get tx l.self.shard.voters)) (drop l.tx-index l.txs) ≡ filter (λ tx. asks_by (facts_of l.self.shard tx) (tx_get tx l.self.shard.voters)) l.txs
