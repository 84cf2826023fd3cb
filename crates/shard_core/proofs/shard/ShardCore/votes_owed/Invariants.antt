use Rattle.std.proofs.Common.{◌≡◌, take}
use Rattle.protocol_laws.specs.Open.{votes_owed}
use Rattle.shard_core.proofs.shard.ShardCore.votes_owed.Given as goal

abbrev pub invariant-loop-tx : goal.invariant-loop-tx
invariant-loop-tx g l = l.count ≡ votes_owed l.self.shard.voters (take l.tx-index l.txs)
