use Rattle.cluster_closing.proofs.Restarting.{unfetched_never_restart}
use Rattle.cluster_closing.proofs.promises.unfetched_never_restart.Goals as goal

pub returns : goal.returns
returns g c = unfetched_never_restart _ _ _
