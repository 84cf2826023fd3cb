use Rattle.journal_laws.proofs.WalkersGoOn.{walkers_go_on}
use Rattle.journal_laws.proofs.statements.walkers_go_on.Goals as goal

pub returns : goal.returns
returns c = walkers_go_on
