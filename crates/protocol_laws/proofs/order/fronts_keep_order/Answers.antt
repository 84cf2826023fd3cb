use Rattle.protocol_laws.proofs.LogsInOrder.{fronts_in_order}
use Rattle.protocol_laws.proofs.order.fronts_keep_order.Goals as goal

pub returns : goal.returns
returns c = fronts_in_order
