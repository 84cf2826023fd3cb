use Rattle.protocol_laws.proofs.Due.WhoseFactsChange.{purges_change}
use Rattle.protocol_laws.proofs.changes.purges_change.Goals as goal

pub returns : goal.returns
returns c = purges_change
