use Rattle.headline_laws.proofs.EndedAreCommitted.{ended_are_committed}
use Rattle.headline_laws.proofs.ending.ended_are_committed.Goals as goal

pub returns : goal.returns
returns c = ended_are_committed
