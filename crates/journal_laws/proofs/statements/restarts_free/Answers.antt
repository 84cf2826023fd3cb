use Rattle.journal_laws.proofs.EndsFree.{restarts_free}
use Rattle.journal_laws.proofs.statements.restarts_free.Goals as goal

pub returns : goal.returns
returns c = restarts_free
