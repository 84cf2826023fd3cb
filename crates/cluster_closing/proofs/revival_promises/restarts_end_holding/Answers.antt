use Rattle.cluster_closing.proofs.ReviveEnding.{restarts_end_holding}
use Rattle.cluster_closing.proofs.revival_promises.restarts_end_holding.Goals as goal

pub returns : goal.returns
returns g c = restarts_end_holding
