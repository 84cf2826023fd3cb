use Rattle.journal_laws.proofs.FreeBirthsStay.{free_births_stay}
use Rattle.journal_laws.proofs.statements.free_births_stay.Goals as goal

pub returns : goal.returns
returns c = free_births_stay
