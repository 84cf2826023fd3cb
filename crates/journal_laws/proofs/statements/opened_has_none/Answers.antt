use Rattle.journal_laws.proofs.FreeBirthsStay.{opened_has_none}
use Rattle.journal_laws.proofs.statements.opened_has_none.Goals as goal

pub returns : goal.returns
returns c = opened_has_none
