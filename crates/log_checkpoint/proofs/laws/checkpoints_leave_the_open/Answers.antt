use Rattle.log_checkpoint.proofs.Leaving.{open_stand}
use Rattle.log_checkpoint.proofs.laws.checkpoints_leave_the_open.Goals as goal

pub returns : goal.returns
returns c = open_stand
