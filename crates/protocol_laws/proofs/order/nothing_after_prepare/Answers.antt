use Rattle.protocol_laws.proofs.LogsInOrder.{sealed_in_order}
use Rattle.protocol_laws.proofs.order.nothing_after_prepare.Goals as goal

pub returns : goal.returns
returns c = sealed_in_order
