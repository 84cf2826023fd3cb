use Rattle.cluster_turns.proofs.Taking.{entries_are_made}
use Rattle.cluster_turns.proofs.turn_promises.entries_are_made.Goals as goal

pub returns : goal.returns
returns g c = entries_are_made
