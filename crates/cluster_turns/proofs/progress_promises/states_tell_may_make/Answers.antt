use Rattle.cluster_turns.proofs.States.{states_tell_may_make}
use Rattle.cluster_turns.proofs.progress_promises.states_tell_may_make.Goals as goal

pub returns : goal.returns
returns c = states_tell_may_make
