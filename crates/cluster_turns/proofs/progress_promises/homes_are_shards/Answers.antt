use Rattle.cluster_turns.proofs.Within.{homes_are_shards}
use Rattle.cluster_turns.proofs.progress_promises.homes_are_shards.Goals as goal

pub returns : goal.returns
returns c = homes_are_shards
