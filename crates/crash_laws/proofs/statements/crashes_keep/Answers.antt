use Rattle.crash_laws.proofs.CrashesKeep.{crashes_keep}
use Rattle.crash_laws.proofs.statements.crashes_keep.Goals as goal

pub returns : goal.returns
returns c = crashes_keep
