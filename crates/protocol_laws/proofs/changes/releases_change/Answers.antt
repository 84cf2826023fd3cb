use Rattle.protocol_laws.proofs.Due.WhoseFactsChange.{releases_change}
use Rattle.protocol_laws.proofs.changes.releases_change.Goals as goal

pub returns : goal.returns
returns c = releases_change
