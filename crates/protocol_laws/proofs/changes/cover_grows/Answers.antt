use Rattle.protocol_laws.proofs.Due.DueByFacts.{cover_grows}
use Rattle.protocol_laws.proofs.changes.cover_grows.Goals as goal

pub returns : goal.returns
returns c = cover_grows
