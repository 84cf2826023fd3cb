use Rattle.due_step.proofs.Touched.{carried_covers}
use Rattle.due_step.proofs.covering.carried_covers.Goals as goal

pub returns : goal.returns
returns c = carried_covers
