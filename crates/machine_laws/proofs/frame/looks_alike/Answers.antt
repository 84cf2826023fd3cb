use Rattle.machine_laws.proofs.EventsAlike.{looks_alike}
use Rattle.machine_laws.proofs.frame.looks_alike.Goals as goal

pub returns : goal.returns
returns c = looks_alike
