use Rattle.fate_laws.proofs.EarlierRuns.EarlierFatesAreKnown.{earlier_aborts_are_known}
use Rattle.fate_laws.proofs.earlier_runs.earlier_aborts_are_known.Goals as goal

pub returns : goal.returns
returns c = earlier_aborts_are_known
