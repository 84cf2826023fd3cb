use Rattle.fate_laws.proofs.Homes.DecidedStaysDecided.{commits_stand_at_home}
use Rattle.fate_laws.proofs.decisions.commits_stand_at_home.Goals as goal

pub returns : goal.returns
returns c = commits_stand_at_home
