use Rattle.cluster_turns.specs.Rounds.{no_turn}
use Rattle.cluster_turns.proofs.rounds.stand_by.Goals as goal

pub returns-then-met-clause-tended : goal.returns-then-met-clause-tended
returns-then-met-clause-tended g c = no_turn

pub returns-in-Some-clause-tended : goal.returns-in-Some-clause-tended
returns-in-Some-clause-tended g c = no_turn
