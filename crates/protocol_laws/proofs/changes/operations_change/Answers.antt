use Rattle.protocol_laws.proofs.Due.WhoseFactsChange.{operations_change}
use Rattle.protocol_laws.proofs.changes.operations_change.Goals as goal

pub returns : goal.returns
returns c = operations_change
