use Rattle.journal_laws.proofs.FreeBirthsStay.{others_leave_births}
use Rattle.journal_laws.proofs.statements.others_leave_births.Goals as goal

pub returns : goal.returns
returns c = others_leave_births
