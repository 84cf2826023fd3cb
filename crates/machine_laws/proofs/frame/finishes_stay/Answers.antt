use Rattle.machine_laws.proofs.Staying.{finishes_stay}
use Rattle.machine_laws.proofs.frame.finishes_stay.Goals as goal

pub returns : goal.returns
returns c = finishes_stay
