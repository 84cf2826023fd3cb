use Rattle.protocol_laws.proofs.Due.DoingGoesOn.{doing_goes_on}
use Rattle.protocol_laws.proofs.candidates.doing_goes_on.Goals as goal

pub returns : goal.returns
returns c = doing_goes_on
