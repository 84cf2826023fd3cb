use Rattle.headline_laws.proofs.TransactionsReplayByShards.{replay_by_shards}
use Rattle.headline_laws.proofs.shard_replay.transactions_replay_by_shards.Goals as goal

pub returns : goal.returns
returns c = replay_by_shards
