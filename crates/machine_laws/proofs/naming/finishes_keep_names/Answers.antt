use Rattle.machine_laws.proofs.Fits.{finishes_keep_names}
use Rattle.machine_laws.proofs.naming.finishes_keep_names.Goals as goal

pub returns : goal.returns
returns c = finishes_keep_names
