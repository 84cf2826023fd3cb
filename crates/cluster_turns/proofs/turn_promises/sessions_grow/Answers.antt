use Rattle.cluster_turns.proofs.Answering.{sessions_grow}
use Rattle.cluster_turns.proofs.turn_promises.sessions_grow.Goals as goal

pub returns : goal.returns
returns g c = sessions_grow
