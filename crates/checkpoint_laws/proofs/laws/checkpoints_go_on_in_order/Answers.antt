use Rattle.checkpoint_laws.proofs.CheckpointsGoOnInOrder.{checked_goes_on}
use Rattle.checkpoint_laws.proofs.laws.checkpoints_go_on_in_order.Goals as goal

pub returns : goal.returns
returns c = checked_goes_on
