use Rattle.cluster_closing.proofs.ReviveLanding.{restarts_land}
use Rattle.cluster_closing.proofs.revival_promises.restarts_land.Goals as goal

pub returns : goal.returns
returns g c = restarts_land
