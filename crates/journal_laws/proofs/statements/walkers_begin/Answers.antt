use Rattle.journal_laws.proofs.WalkersGoOn.{walkers_begin}
use Rattle.journal_laws.proofs.statements.walkers_begin.Goals as goal

pub returns : goal.returns
returns c = walkers_begin
