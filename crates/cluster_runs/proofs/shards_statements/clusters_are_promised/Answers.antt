use Rattle.cluster_runs.proofs.Promising.{clusters_are_promised}
use Rattle.cluster_runs.proofs.shards_statements.clusters_are_promised.Goals as goal

pub returns : goal.returns
returns c = clusters_are_promised
