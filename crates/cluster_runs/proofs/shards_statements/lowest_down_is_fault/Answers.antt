use Rattle.cluster_runs.proofs.Down.{lowest_down_is_fault}
use Rattle.cluster_runs.proofs.shards_statements.lowest_down_is_fault.Goals as goal

pub returns : goal.returns
returns c = lowest_down_is_fault
