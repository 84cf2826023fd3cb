use Rattle.cluster_turns.proofs.Unbearing.{unborn_stays}
use Rattle.cluster_turns.proofs.promises.unborn_stays.Goals as goal

pub returns : goal.returns
returns g c = unborn_stays
