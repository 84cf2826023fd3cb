use Rattle.protocol_laws.proofs.Due.WhoseFactsChange.{roll_backs_change}
use Rattle.protocol_laws.proofs.changes.roll_backs_change.Goals as goal

pub returns : goal.returns
returns c = roll_backs_change
