use Rattle.protocol_laws.proofs.RestartsLeadToOneLog.{misfit_is_exact}
use Rattle.protocol_laws.proofs.restarts.misfit_is_exact.Goals as goal

pub returns : goal.returns
returns c = misfit_is_exact
