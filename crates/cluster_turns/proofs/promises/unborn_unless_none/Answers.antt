use Rattle.cluster_turns.proofs.Unbearing.{unborn_unless_none}
use Rattle.cluster_turns.proofs.promises.unborn_unless_none.Goals as goal

pub returns : goal.returns
returns g c = unborn_unless_none
