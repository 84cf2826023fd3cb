use Rattle.protocol_laws.proofs.LeftByOpen.{left_by_open}
use Rattle.protocol_laws.proofs.left.left_by_open.Goals as goal

pub returns : goal.returns
returns c = left_by_open
