use Rattle.fate_laws.proofs.Homes.DecidedStaysDecided.{told_commits_stay}
use Rattle.fate_laws.proofs.decisions.told_commits_stay.Goals as goal

pub returns : goal.returns
returns c = told_commits_stay
