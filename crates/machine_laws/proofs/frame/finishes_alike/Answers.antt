use Rattle.machine_laws.proofs.Alike.{finishes_alike}
use Rattle.machine_laws.proofs.frame.finishes_alike.Goals as goal

pub returns : goal.returns
returns c = finishes_alike
