use Rattle.cluster_turns.proofs.Keeping.{new_are_informed}
use Rattle.cluster_turns.proofs.promises.new_are_informed.Goals as goal

pub returns : goal.returns
returns g c = new_are_informed
