use Rattle.protocol_laws.proofs.LogsInOrder.{runs_in_order}
use Rattle.protocol_laws.proofs.order.runs_are_those_of_restarts.Goals as goal

pub returns : goal.returns
returns c = runs_in_order
