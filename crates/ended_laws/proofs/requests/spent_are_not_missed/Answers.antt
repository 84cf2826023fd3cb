use Rattle.ended_laws.proofs.Recalled.{spent_are_not_missed}
use Rattle.ended_laws.proofs.requests.spent_are_not_missed.Goals as goal

pub returns : goal.returns
returns c = spent_are_not_missed
