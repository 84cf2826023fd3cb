use Rattle.cluster_turns.proofs.Dating.{drains_wear_out}
use Rattle.cluster_turns.proofs.turn_promises.drains_wear_out.Goals as goal

pub returns : goal.returns
returns g c = drains_wear_out
