use Rattle.cluster_closing.proofs.ReviveLanding.{fetches_land}
use Rattle.cluster_closing.proofs.revival_promises.fetches_land.Goals as goal

pub returns : goal.returns
returns g c = fetches_land
