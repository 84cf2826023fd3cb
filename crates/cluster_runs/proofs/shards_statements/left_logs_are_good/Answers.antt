use Rattle.cluster_runs.proofs.Following.{left_logs_are_good}
use Rattle.cluster_runs.proofs.shards_statements.left_logs_are_good.Goals as goal

pub returns : goal.returns
returns c = left_logs_are_good
