use Rattle.journal_laws.proofs.EndsFree.{runs_find_active}
use Rattle.journal_laws.proofs.statements.runs_find_active.Goals as goal

pub returns : goal.returns
returns c = runs_find_active
