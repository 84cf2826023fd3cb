use Rattle.cluster_runs.proofs.Completing.{sessions_have_ended}
use Rattle.cluster_runs.proofs.shards_statements.sessions_have_ended.Goals as goal

pub returns : goal.returns
returns c = sessions_have_ended
