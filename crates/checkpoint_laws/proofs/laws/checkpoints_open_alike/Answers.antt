use Rattle.checkpoint_laws.proofs.CheckpointsLeaveTheState.{checked_opens}
use Rattle.checkpoint_laws.proofs.laws.checkpoints_open_alike.Goals as goal

pub returns : goal.returns
returns c = checked_opens
