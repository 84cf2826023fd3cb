use Rattle.cluster_turns.proofs.Freely.{free_stays}
use Rattle.cluster_turns.proofs.promises.free_stays.Goals as goal

pub returns : goal.returns
returns g c = free_stays
