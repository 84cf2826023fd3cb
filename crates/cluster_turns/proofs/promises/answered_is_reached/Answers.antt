use Rattle.cluster_turns.proofs.Reaching.{answered_is_reached}
use Rattle.cluster_turns.proofs.promises.answered_is_reached.Goals as goal

pub returns : goal.returns
returns g c = answered_is_reached
