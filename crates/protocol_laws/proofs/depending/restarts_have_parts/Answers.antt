use Rattle.protocol_laws.proofs.DependentsHaveParts.{restarts_have_parts}
use Rattle.protocol_laws.proofs.depending.restarts_have_parts.Goals as goal

pub returns : goal.returns
returns c = restarts_have_parts
