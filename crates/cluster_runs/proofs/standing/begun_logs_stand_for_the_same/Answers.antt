use Rattle.cluster_runs.proofs.Undoing.{begun_stand}
use Rattle.cluster_runs.proofs.standing.begun_logs_stand_for_the_same.Goals as goal

pub returns : goal.returns
returns g = begun_stand
