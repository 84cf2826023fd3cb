use Rattle.cluster_runs.proofs.Stored.{nothing_is_replayed}
use Rattle.cluster_runs.proofs.replay.nothing_is_replayed.Goals as goal

pub returns : goal.returns
returns c = nothing_is_replayed
