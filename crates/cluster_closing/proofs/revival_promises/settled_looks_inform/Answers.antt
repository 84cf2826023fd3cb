use Rattle.cluster_closing.proofs.Informing.{settled_looks_inform}
use Rattle.cluster_closing.proofs.revival_promises.settled_looks_inform.Goals as goal

pub returns : goal.returns
returns g c = settled_looks_inform
