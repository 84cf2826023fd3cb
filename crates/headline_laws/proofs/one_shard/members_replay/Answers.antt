use Rattle.headline_laws.proofs.OneShard.LawsOfOneShard.{members_replay}
use Rattle.headline_laws.proofs.one_shard.members_replay.Goals as goal

pub returns : goal.returns
returns c = members_replay
