use Rattle.cluster_turns.proofs.Answering.{worn_is_last}
use Rattle.cluster_turns.proofs.turn_promises.worn_is_last.Goals as goal

pub returns : goal.returns
returns g c = worn_is_last
