use Rattle.serial_laws.proofs.ReplayByShards.{replay_by_shards}
use Rattle.serial_laws.proofs.shares.replay_by_shards.Goals as goal

pub returns : goal.returns
returns c = replay_by_shards
