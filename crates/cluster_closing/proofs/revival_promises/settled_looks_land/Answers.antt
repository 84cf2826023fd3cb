use Rattle.cluster_closing.proofs.ReviveLanding.{settled_looks_land}
use Rattle.cluster_closing.proofs.revival_promises.settled_looks_land.Goals as goal

pub returns : goal.returns
returns g c = settled_looks_land
