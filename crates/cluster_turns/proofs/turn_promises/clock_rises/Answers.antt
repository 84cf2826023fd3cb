use Rattle.cluster_turns.proofs.Taking.{clock_rises}
use Rattle.cluster_turns.proofs.turn_promises.clock_rises.Goals as goal

pub returns : goal.returns
returns g c = clock_rises
