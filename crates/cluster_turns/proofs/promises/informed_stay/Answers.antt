use Rattle.cluster_turns.proofs.Keeping.{informed_stay}
use Rattle.cluster_turns.proofs.promises.informed_stay.Goals as goal

pub returns : goal.returns
returns g c = informed_stay
