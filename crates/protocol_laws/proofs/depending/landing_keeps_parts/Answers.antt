use Rattle.protocol_laws.proofs.DependentsHaveParts.{landing_keeps_parts}
use Rattle.protocol_laws.proofs.depending.landing_keeps_parts.Goals as goal

pub returns : goal.returns
returns c = landing_keeps_parts
