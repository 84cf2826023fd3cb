use Rattle.protocol_laws.proofs.DueKeepsKeys.{due_keeps_keys}
use Rattle.protocol_laws.proofs.depending.due_keeps_keys.Goals as goal

pub returns : goal.returns
returns c = due_keeps_keys
