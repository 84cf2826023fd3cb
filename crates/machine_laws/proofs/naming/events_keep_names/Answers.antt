use Rattle.machine_laws.proofs.Fits.{events_keep_names}
use Rattle.machine_laws.proofs.naming.events_keep_names.Goals as goal

pub returns : goal.returns
returns c = events_keep_names
