use Rattle.protocol_laws.proofs.DependentsHaveParts.{due_keeps_parts}
use Rattle.protocol_laws.proofs.depending.due_keeps_parts.Goals as goal

pub returns : goal.returns
returns c = due_keeps_parts
