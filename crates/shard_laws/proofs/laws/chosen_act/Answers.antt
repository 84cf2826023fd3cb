use Rattle.shard_laws.proofs.ChosenAct.{chosen_act}
use Rattle.shard_laws.proofs.laws.chosen_act.Goals as goal

pub returns : goal.returns
returns c = chosen_act
