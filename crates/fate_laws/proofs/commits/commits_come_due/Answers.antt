use Rattle.fate_laws.proofs.Parts.CommitsHaveTheirParts.{commits_come_due}
use Rattle.fate_laws.proofs.commits.commits_come_due.Goals as goal

pub returns : goal.returns
returns c = commits_come_due
