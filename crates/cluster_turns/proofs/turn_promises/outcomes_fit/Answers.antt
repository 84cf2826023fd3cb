use Rattle.cluster_turns.proofs.Answering.{outcomes_fit}
use Rattle.cluster_turns.proofs.turn_promises.outcomes_fit.Goals as goal

pub returns : goal.returns
returns g c = outcomes_fit
