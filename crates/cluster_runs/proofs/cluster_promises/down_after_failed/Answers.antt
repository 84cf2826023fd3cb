use Rattle.cluster_runs.proofs.Holding.{down_after_failed}
use Rattle.cluster_runs.proofs.cluster_promises.down_after_failed.Goals as goal

pub returns : goal.returns
returns c = down_after_failed
