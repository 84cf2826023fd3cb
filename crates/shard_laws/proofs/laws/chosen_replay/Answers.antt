use Rattle.shard_laws.proofs.ChosenReplay.{chosen_replay}
use Rattle.shard_laws.proofs.laws.chosen_replay.Goals as goal

pub returns : goal.returns
returns c = chosen_replay
