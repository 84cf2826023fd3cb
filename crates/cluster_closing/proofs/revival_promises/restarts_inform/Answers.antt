use Rattle.cluster_closing.proofs.Informing.{restarts_inform}
use Rattle.cluster_closing.proofs.revival_promises.restarts_inform.Goals as goal

pub returns : goal.returns
returns g c = restarts_inform
