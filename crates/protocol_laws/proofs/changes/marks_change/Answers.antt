use Rattle.protocol_laws.proofs.Due.WhoseFactsChange.{marks_change}
use Rattle.protocol_laws.proofs.changes.marks_change.Goals as goal

pub returns : goal.returns
returns c = marks_change
