use Rattle.journal_laws.proofs.EndsFree.{inactive_is_free}
use Rattle.journal_laws.proofs.statements.inactive_is_free.Goals as goal

pub returns : goal.returns
returns c = inactive_is_free
