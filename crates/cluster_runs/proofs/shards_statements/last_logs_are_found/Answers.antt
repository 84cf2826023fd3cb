use Rattle.cluster_runs.proofs.Following.{last_logs_are_found}
use Rattle.cluster_runs.proofs.shards_statements.last_logs_are_found.Goals as goal

pub returns : goal.returns
returns c = last_logs_are_found
