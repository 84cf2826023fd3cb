use Rattle.machine_laws.proofs.EventsAlike.{events_alike}
use Rattle.machine_laws.proofs.frame.events_alike.Goals as goal

pub returns : goal.returns
returns c = events_alike
