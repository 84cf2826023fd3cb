use Rattle.cluster_runs.proofs.Promising.{runs_are_promised}
use Rattle.cluster_runs.proofs.shards_statements.runs_are_promised.Goals as goal

pub returns : goal.returns
returns c = runs_are_promised
