use Rattle.checkpoint_laws.proofs.CheckpointsLeaveTheState.{checked_leaves}
use Rattle.checkpoint_laws.proofs.laws.checkpoints_leave_the_state.Goals as goal

pub returns : goal.returns
returns c = checked_leaves
