use Rattle.cluster_runs.proofs.Holding.{closed_disks_hold}
use Rattle.cluster_runs.proofs.cluster_promises.closed_disks_hold.Goals as goal

pub returns : goal.returns
returns c = closed_disks_hold
