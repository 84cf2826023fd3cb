use Rattle.protocol_laws.proofs.Due.WhoseFactsChange.{rolls_change}
use Rattle.protocol_laws.proofs.changes.rolls_change.Goals as goal

pub returns : goal.returns
returns c = rolls_change
