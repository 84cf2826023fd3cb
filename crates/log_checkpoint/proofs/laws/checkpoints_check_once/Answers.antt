use Rattle.log_checkpoint.proofs.Again.{check_again}
use Rattle.log_checkpoint.proofs.laws.checkpoints_check_once.Goals as goal

pub returns : goal.returns
returns c = check_again
