use Rattle.fate_laws.proofs.FallenAreUncommitted.{commits_find_the_unfallen}
use Rattle.fate_laws.proofs.falls.commits_find_the_unfallen.Goals as goal

pub returns : goal.returns
returns c = commits_find_the_unfallen
