use Rattle.protocol_laws.proofs.LogsInOrder.{tidy_in_order}
use Rattle.protocol_laws.proofs.order.nothing_after_commit.Goals as goal

pub returns : goal.returns
returns c = tidy_in_order
