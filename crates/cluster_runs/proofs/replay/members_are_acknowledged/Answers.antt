use Rattle.cluster_runs.proofs.Replaying.{members_are_acknowledged}
use Rattle.cluster_runs.proofs.replay.members_are_acknowledged.Goals as goal

pub returns : goal.returns
returns c = members_are_acknowledged
