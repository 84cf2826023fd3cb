use Rattle.log_checkpoint.proofs.StandingAlike.{stand_alike}
use Rattle.log_checkpoint.proofs.laws.checkpoints_stand_alike.Goals as goal

pub returns : goal.returns
returns c = stand_alike
