use Rattle.cluster_runs.proofs.Ending.{all_are_in}
use Rattle.cluster_runs.proofs.promises.all_are_in.Goals as goal

pub returns : goal.returns
returns g c = all_are_in
