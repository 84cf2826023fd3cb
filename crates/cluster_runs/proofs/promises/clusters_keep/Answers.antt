use Rattle.cluster_runs.proofs.Ending.{clusters_keep}
use Rattle.cluster_runs.proofs.promises.clusters_keep.Goals as goal

pub returns : goal.returns
returns g c = clusters_keep
