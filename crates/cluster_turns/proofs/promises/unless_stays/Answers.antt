use Rattle.cluster_turns.proofs.Unbearing.{unless_stays}
use Rattle.cluster_turns.proofs.promises.unless_stays.Goals as goal

pub returns : goal.returns
returns g c = unless_stays
