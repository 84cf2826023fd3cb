use Rattle.checkpoint_laws.proofs.InOrder.{logs_in_order}
use Rattle.checkpoint_laws.proofs.laws.checkpoints_of_logs_in_order.Goals as goal

pub returns : goal.returns
returns c = logs_in_order
