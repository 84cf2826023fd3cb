use Rattle.cluster_turns.proofs.Taking.{kept_grows}
use Rattle.cluster_turns.proofs.turn_promises.kept_grows.Goals as goal

pub returns : goal.returns
returns g c = kept_grows
