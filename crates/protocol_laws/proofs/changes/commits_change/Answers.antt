use Rattle.protocol_laws.proofs.Due.WhoseFactsChange.{commits_change}
use Rattle.protocol_laws.proofs.changes.commits_change.Goals as goal

pub returns : goal.returns
returns c = commits_change
