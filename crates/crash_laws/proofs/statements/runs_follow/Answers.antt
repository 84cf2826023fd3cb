use Rattle.crash_laws.proofs.CrashesKeep.{runs_follow}
use Rattle.crash_laws.proofs.statements.runs_follow.Goals as goal

pub returns : goal.returns
returns c = runs_follow
