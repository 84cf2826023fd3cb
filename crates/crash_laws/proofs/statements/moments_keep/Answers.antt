use Rattle.crash_laws.proofs.CrashesKeep.{moments_keep}
use Rattle.crash_laws.proofs.statements.moments_keep.Goals as goal

pub returns : goal.returns
returns c = moments_keep
