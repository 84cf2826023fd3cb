use Rattle.protocol_laws.proofs.Due.WhoseFactsChange.{ends_change}
use Rattle.protocol_laws.proofs.changes.ends_change.Goals as goal

pub returns : goal.returns
returns c = ends_change
