use Rattle.cluster_closing.proofs.Landing.{events_land}
use Rattle.cluster_closing.proofs.end_promises.events_land.Goals as goal

pub returns : goal.returns
returns g c = events_land
