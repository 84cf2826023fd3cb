use Rattle.cluster_runs.proofs.Replaying.{runs_replay}
use Rattle.cluster_runs.proofs.replay.runs_replay.Goals as goal

pub returns : goal.returns
returns c = runs_replay
