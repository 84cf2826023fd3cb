use Rattle.cluster_turns.proofs.Dating.{turns_are_dated}
use Rattle.cluster_turns.proofs.turn_promises.turns_are_dated.Goals as goal

pub returns : goal.returns
returns g c = turns_are_dated
