use Rattle.fate_laws.proofs.EarlierRuns.EarlierFatesAreKnown.{aborts_stay}
use Rattle.fate_laws.proofs.earlier_runs.aborts_stay.Goals as goal

pub returns : goal.returns
returns c = aborts_stay
