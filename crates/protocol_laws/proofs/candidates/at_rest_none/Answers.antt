use Rattle.protocol_laws.proofs.Due.LeastIsNext.{at_rest_none}
use Rattle.protocol_laws.proofs.candidates.at_rest_none.Goals as goal

pub returns : goal.returns
returns c = at_rest_none
