use Rattle.cluster_runs.proofs.Ending.{statuses_tell}
use Rattle.cluster_runs.proofs.promises.statuses_tell.Goals as goal

pub returns : goal.returns
returns g c = statuses_tell
