use Rattle.cluster_turns.proofs.Reaching.{past_stays}
use Rattle.cluster_turns.proofs.promises.past_stays.Goals as goal

pub returns : goal.returns
returns g c = past_stays
