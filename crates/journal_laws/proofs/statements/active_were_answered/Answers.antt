use Rattle.journal_laws.proofs.ActiveWereAnswered.{active_were_answered}
use Rattle.journal_laws.proofs.statements.active_were_answered.Goals as goal

pub returns : goal.returns
returns c = active_were_answered
