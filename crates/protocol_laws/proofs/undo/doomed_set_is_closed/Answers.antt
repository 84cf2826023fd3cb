use Rattle.protocol_laws.proofs.DoomedSetIsClosed.{doomed_is_closure}
use Rattle.protocol_laws.proofs.undo.doomed_set_is_closed.Goals as goal

pub returns : goal.returns
returns c = doomed_is_closure
