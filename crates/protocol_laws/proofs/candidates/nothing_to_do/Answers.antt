use Rattle.protocol_laws.proofs.Due.DoingGoesOn.{nothing_to_do}
use Rattle.protocol_laws.proofs.candidates.nothing_to_do.Goals as goal

pub returns : goal.returns
returns c = nothing_to_do
