use Rattle.machine_laws.proofs.Fits.{sends_fit}
use Rattle.machine_laws.proofs.naming.sends_fit.Goals as goal

pub returns : goal.returns
returns c = sends_fit
