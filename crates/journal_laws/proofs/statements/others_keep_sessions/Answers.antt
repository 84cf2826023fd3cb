use Rattle.journal_laws.proofs.WalkersGoOn.{others_keep_sessions}
use Rattle.journal_laws.proofs.statements.others_keep_sessions.Goals as goal

pub returns : goal.returns
returns c = others_keep_sessions
