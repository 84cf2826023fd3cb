use Rattle.protocol_laws.proofs.LogsInOrder.{undoable_in_order}
use Rattle.protocol_laws.proofs.order.undone_are_open.Goals as goal

pub returns : goal.returns
returns c = undoable_in_order
