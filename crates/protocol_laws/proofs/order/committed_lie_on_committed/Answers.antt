use Rattle.protocol_laws.proofs.LogsInOrder.{lie_in_order}
use Rattle.protocol_laws.proofs.order.committed_lie_on_committed.Goals as goal

pub returns : goal.returns
returns c = lie_in_order
