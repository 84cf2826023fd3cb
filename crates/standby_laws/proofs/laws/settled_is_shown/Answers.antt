use Rattle.standby_laws.proofs.Settled.{settled_is_shown}
use Rattle.standby_laws.proofs.laws.settled_is_shown.Goals as goal

pub returns : goal.returns
returns c = settled_is_shown
