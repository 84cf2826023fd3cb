use Rattle.fate_laws.proofs.CommitsFindNoneFallen.{commits_find_none_fallen}
use Rattle.fate_laws.proofs.falls.commits_find_none_fallen.Goals as goal

pub returns : goal.returns
returns c = commits_find_none_fallen
