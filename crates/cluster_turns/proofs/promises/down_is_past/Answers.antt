use Rattle.cluster_turns.proofs.Reaching.{down_is_past}
use Rattle.cluster_turns.proofs.promises.down_is_past.Goals as goal

pub returns : goal.returns
returns g c = down_is_past
