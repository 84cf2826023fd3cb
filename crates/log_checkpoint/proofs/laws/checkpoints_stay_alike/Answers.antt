use Rattle.log_checkpoint.proofs.StayingAlike.{stays_alike}
use Rattle.log_checkpoint.proofs.laws.checkpoints_stay_alike.Goals as goal

pub returns : goal.returns
returns c = stays_alike
