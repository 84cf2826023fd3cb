use Rattle.cluster_closing.proofs.Landing.{flushes_land}
use Rattle.cluster_closing.proofs.end_promises.flushes_land.Goals as goal

pub returns : goal.returns
returns g c = flushes_land
