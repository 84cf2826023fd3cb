use Rattle.cluster_runs.proofs.Down.{down_stays}
use Rattle.cluster_runs.proofs.shards_statements.down_stays.Goals as goal

pub returns : goal.returns
returns c = down_stays
