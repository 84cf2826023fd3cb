use Rattle.log_checkpoint.proofs.GoingOn.{goes_on}
use Rattle.log_checkpoint.proofs.laws.checkpoints_go_on.Goals as goal

pub returns : goal.returns
returns c = goes_on
