use Rattle.protocol_laws.proofs.Due.WhoseFactsChange.{closes_change}
use Rattle.protocol_laws.proofs.changes.closes_change.Goals as goal

pub returns : goal.returns
returns c = closes_change
