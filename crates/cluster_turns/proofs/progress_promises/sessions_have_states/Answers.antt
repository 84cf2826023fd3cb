use Rattle.cluster_turns.proofs.States.{sessions_have_states}
use Rattle.cluster_turns.proofs.progress_promises.sessions_have_states.Goals as goal

pub returns : goal.returns
returns c = sessions_have_states
