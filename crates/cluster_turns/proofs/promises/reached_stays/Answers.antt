use Rattle.cluster_turns.proofs.Reaching.{reached_stays}
use Rattle.cluster_turns.proofs.promises.reached_stays.Goals as goal

pub returns : goal.returns
returns g c = reached_stays
