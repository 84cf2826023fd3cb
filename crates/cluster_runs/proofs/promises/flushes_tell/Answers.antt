use Rattle.cluster_runs.proofs.Ending.{flushes_tell}
use Rattle.cluster_runs.proofs.promises.flushes_tell.Goals as goal

pub returns : goal.returns
returns g c = flushes_tell
