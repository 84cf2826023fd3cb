use Rattle.cluster_runs.proofs.Going.{requests_are_told}
use Rattle.cluster_runs.proofs.replay.requests_are_told.Goals as goal

pub returns : goal.returns
returns c = requests_are_told
