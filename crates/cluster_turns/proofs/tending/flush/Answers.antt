use Rattle.cluster_turns.specs.Rounds.{no_turn}
use Rattle.cluster_turns.proofs.tending.flush.Goals as goal

pub returns-in-Err-clause-tended : goal.returns-in-Err-clause-tended
returns-in-Err-clause-tended g c = no_turn
