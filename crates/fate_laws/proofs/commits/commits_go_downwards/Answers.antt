use Rattle.fate_laws.proofs.CommitsGoDownwards.{commits_go_downwards}
use Rattle.fate_laws.proofs.commits.commits_go_downwards.Goals as goal

pub returns : goal.returns
returns c = commits_go_downwards
