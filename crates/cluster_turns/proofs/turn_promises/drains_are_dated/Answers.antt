use Rattle.cluster_turns.proofs.Dating.{drains_are_dated}
use Rattle.cluster_turns.proofs.turn_promises.drains_are_dated.Goals as goal

pub returns : goal.returns
returns g c = drains_are_dated
