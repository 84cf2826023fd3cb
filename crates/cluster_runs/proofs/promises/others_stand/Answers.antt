use Rattle.cluster_runs.proofs.Ending.{others_stand}
use Rattle.cluster_runs.proofs.promises.others_stand.Goals as goal

pub returns : goal.returns
returns g c = others_stand
