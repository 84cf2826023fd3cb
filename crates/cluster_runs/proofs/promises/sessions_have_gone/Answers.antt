use Rattle.cluster_runs.proofs.Ending.{sessions_have_gone}
use Rattle.cluster_runs.proofs.promises.sessions_have_gone.Goals as goal

pub returns : goal.returns
returns g c = sessions_have_gone
