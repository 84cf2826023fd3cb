use Rattle.fate_laws.proofs.Homes.DecidedStaysDecided.{commits_are_members}
use Rattle.fate_laws.proofs.decisions.commits_are_members.Goals as goal

pub returns : goal.returns
returns c = commits_are_members
