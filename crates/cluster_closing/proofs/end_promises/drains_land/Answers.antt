use Rattle.cluster_closing.proofs.Landing.{drains_land}
use Rattle.cluster_closing.proofs.end_promises.drains_land.Goals as goal

pub returns : goal.returns
returns g c = drains_land
