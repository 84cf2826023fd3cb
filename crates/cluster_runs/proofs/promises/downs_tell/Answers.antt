use Rattle.cluster_runs.proofs.Ending.{downs_tell}
use Rattle.cluster_runs.proofs.promises.downs_tell.Goals as goal

pub returns : goal.returns
returns g c = downs_tell
