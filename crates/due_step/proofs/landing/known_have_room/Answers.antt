use Rattle.due_step.proofs.Known.{known_have_room}
use Rattle.due_step.proofs.landing.known_have_room.Goals as goal

pub returns : goal.returns
returns c = known_have_room
