use Rattle.due_step.proofs.Noted.{noted_covers}
use Rattle.due_step.proofs.landing.noted_covers.Goals as goal

pub returns : goal.returns
returns c = noted_covers
