use Rattle.cluster_turns.proofs.Keeping.{informed_later}
use Rattle.cluster_turns.proofs.promises.informed_later.Goals as goal

pub returns : goal.returns
returns g c = informed_later
