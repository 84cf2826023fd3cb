use Rattle.cluster_turns.proofs.Unbearing.{new_is_unborn}
use Rattle.cluster_turns.proofs.promises.new_is_unborn.Goals as goal

pub returns : goal.returns
returns g c = new_is_unborn
