use Rattle.protocol_laws.proofs.Due.LeastIsNext.{none_is_nothing}
use Rattle.protocol_laws.proofs.candidates.none_is_nothing.Goals as goal

pub returns : goal.returns
returns c = none_is_nothing
