use Rattle.journal_laws.proofs.FreeBirthsStay.{new_births_are_free}
use Rattle.journal_laws.proofs.statements.new_births_are_free.Goals as goal

pub returns : goal.returns
returns c = new_births_are_free
