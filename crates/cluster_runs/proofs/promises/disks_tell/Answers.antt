use Rattle.cluster_runs.proofs.Ending.{disks_tell}
use Rattle.cluster_runs.proofs.promises.disks_tell.Goals as goal

pub returns : goal.returns
returns g c = disks_tell
