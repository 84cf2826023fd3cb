use Rattle.machine_laws.proofs.Staying.{events_stay}
use Rattle.machine_laws.proofs.frame.events_stay.Goals as goal

pub returns : goal.returns
returns c = events_stay
