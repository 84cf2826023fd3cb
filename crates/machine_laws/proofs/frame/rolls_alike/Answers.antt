use Rattle.machine_laws.proofs.EventsAlike.{rolls_alike}
use Rattle.machine_laws.proofs.frame.rolls_alike.Goals as goal

pub returns : goal.returns
returns c = rolls_alike
