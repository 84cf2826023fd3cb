use Rattle.protocol_laws.proofs.LeftFalls.{records_by_left}
use Rattle.protocol_laws.proofs.left.records_by_left.Goals as goal

pub returns : goal.returns
returns c = records_by_left
