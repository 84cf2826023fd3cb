use Rattle.protocol_laws.proofs.DependentsHaveParts.{events_keep_parts}
use Rattle.protocol_laws.proofs.depending.events_keep_parts.Goals as goal

pub returns : goal.returns
returns c = events_keep_parts
