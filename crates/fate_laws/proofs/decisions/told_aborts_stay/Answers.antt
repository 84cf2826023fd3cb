use Rattle.fate_laws.proofs.Homes.DecidedStaysDecided.{told_aborts_stay}
use Rattle.fate_laws.proofs.decisions.told_aborts_stay.Goals as goal

pub returns : goal.returns
returns c = told_aborts_stay
