use Rattle.protocol_laws.proofs.Due.LeastIsNext.{least_is_next}
use Rattle.protocol_laws.proofs.candidates.least_is_next.Goals as goal

pub returns : goal.returns
returns c = least_is_next
