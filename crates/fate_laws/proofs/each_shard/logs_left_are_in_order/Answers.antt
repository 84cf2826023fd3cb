use Rattle.fate_laws.proofs.LogsLeftAreInOrder.{logs_left_are_in_order}
use Rattle.fate_laws.proofs.each_shard.logs_left_are_in_order.Goals as goal

pub returns : goal.returns
returns c = logs_left_are_in_order
