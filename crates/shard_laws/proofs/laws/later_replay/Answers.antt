use Rattle.shard_laws.proofs.LaterReplay.{later_replay}
use Rattle.shard_laws.proofs.laws.later_replay.Goals as goal

pub returns : goal.returns
returns c = later_replay
