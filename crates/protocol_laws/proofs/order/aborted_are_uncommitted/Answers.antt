use Rattle.protocol_laws.proofs.LogsInOrder.{aborted_uncommitted}
use Rattle.protocol_laws.proofs.order.aborted_are_uncommitted.Goals as goal

pub returns : goal.returns
returns c = aborted_uncommitted
