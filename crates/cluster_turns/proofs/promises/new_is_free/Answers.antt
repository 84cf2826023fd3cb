use Rattle.cluster_turns.proofs.Freely.{new_is_free}
use Rattle.cluster_turns.proofs.promises.new_is_free.Goals as goal

pub returns : goal.returns
returns g c = new_is_free
