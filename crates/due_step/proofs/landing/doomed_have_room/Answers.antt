use Rattle.due_step.proofs.Noted.{doomed_have_room}
use Rattle.due_step.proofs.landing.doomed_have_room.Goals as goal

pub returns : goal.returns
returns c = doomed_have_room
