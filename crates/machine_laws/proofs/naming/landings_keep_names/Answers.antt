use Rattle.machine_laws.proofs.Fits.{landings_keep_names}
use Rattle.machine_laws.proofs.naming.landings_keep_names.Goals as goal

pub returns : goal.returns
returns c = landings_keep_names
