use Rattle.cluster_runs.proofs.Holding.{left_disks_hold}
use Rattle.cluster_runs.proofs.cluster_promises.left_disks_hold.Goals as goal

pub returns : goal.returns
returns c = left_disks_hold
