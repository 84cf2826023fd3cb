use Rattle.cluster_turns.proofs.Unbearing.{dies_going_back}
use Rattle.cluster_turns.proofs.promises.dies_going_back.Goals as goal

pub returns : goal.returns
returns g c = dies_going_back
