use Rattle.due_step.proofs.Concerned.{landed_covers}
use Rattle.due_step.proofs.landing.landed_covers.Goals as goal

pub returns : goal.returns
returns c = landed_covers
