use Rattle.cluster_turns.proofs.Taking.{turns_follow}
use Rattle.cluster_turns.proofs.turn_promises.turns_follow.Goals as goal

pub returns : goal.returns
returns g c = turns_follow
