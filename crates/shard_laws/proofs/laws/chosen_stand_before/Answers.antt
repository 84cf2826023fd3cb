use Rattle.shard_laws.proofs.ChosenReplay.{chosen_stand_before}
use Rattle.shard_laws.proofs.laws.chosen_stand_before.Goals as goal

pub returns : goal.returns
returns c = chosen_stand_before
