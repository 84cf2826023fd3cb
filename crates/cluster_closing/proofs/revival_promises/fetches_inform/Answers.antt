use Rattle.cluster_closing.proofs.Informing.{fetches_inform}
use Rattle.cluster_closing.proofs.revival_promises.fetches_inform.Goals as goal

pub returns : goal.returns
returns g c = fetches_inform
