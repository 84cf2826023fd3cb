use Rattle.cluster_runs.proofs.Ending.{runs_keep}
use Rattle.cluster_runs.proofs.promises.runs_keep.Goals as goal

pub returns : goal.returns
returns g c = runs_keep
