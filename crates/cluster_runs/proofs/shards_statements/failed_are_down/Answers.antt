use Rattle.cluster_runs.proofs.Down.{failed_are_down}
use Rattle.cluster_runs.proofs.shards_statements.failed_are_down.Goals as goal

pub returns : goal.returns
returns c = failed_are_down
