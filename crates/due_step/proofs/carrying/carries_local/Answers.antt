use Rattle.due_step.proofs.Cases.{carries_local}
use Rattle.due_step.proofs.carrying.carries_local.Goals as goal

pub returns : goal.returns
returns c = carries_local
