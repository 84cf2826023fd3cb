use Rattle.cluster_turns.proofs.Reaching.{past_rolls_nowhere}
use Rattle.cluster_turns.proofs.promises.past_rolls_nowhere.Goals as goal

pub returns : goal.returns
returns g c = past_rolls_nowhere
