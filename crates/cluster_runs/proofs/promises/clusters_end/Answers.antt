use Rattle.cluster_runs.proofs.Ending.{clusters_end}
use Rattle.cluster_runs.proofs.promises.clusters_end.Goals as goal

pub returns : goal.returns
returns g c = clusters_end
