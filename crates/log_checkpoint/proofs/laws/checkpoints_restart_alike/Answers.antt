use Rattle.log_checkpoint.proofs.Restarting.{restart_alike}
use Rattle.log_checkpoint.proofs.laws.checkpoints_restart_alike.Goals as goal

pub returns : goal.returns
returns c = restart_alike
