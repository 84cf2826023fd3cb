use Rattle.journal_laws.proofs.CrashesLeave.{crashes_leave}
use Rattle.journal_laws.proofs.cut_statements.crashes_leave.Goals as goal

pub returns : goal.returns
returns c = crashes_leave
