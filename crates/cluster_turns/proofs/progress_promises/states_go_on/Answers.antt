use Rattle.cluster_turns.proofs.States.{states_go_on}
use Rattle.cluster_turns.proofs.progress_promises.states_go_on.Goals as goal

pub returns : goal.returns
returns c = states_go_on
