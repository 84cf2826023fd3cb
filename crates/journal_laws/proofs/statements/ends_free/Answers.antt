use Rattle.journal_laws.proofs.EndsFree.{ends_free}
use Rattle.journal_laws.proofs.statements.ends_free.Goals as goal

pub returns : goal.returns
returns c = ends_free
