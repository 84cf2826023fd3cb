use Rattle.checkpoint_laws.proofs.CheckpointsAreInOrder.{checked_in_order}
use Rattle.checkpoint_laws.proofs.laws.checkpoints_are_in_order.Goals as goal

pub returns : goal.returns
returns c = checked_in_order
