use Rattle.cluster_turns.proofs.States.{states_bear_walkers}
use Rattle.cluster_turns.proofs.progress_promises.states_bear_walkers.Goals as goal

pub returns : goal.returns
returns c = states_bear_walkers
