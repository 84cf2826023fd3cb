use Rattle.cluster_turns.proofs.Within.{touched_are_shards}
use Rattle.cluster_turns.proofs.progress_promises.touched_are_shards.Goals as goal

pub returns : goal.returns
returns c = touched_are_shards
