use Rattle.cluster_turns.proofs.Unbearing.{unborn_unless_any}
use Rattle.cluster_turns.proofs.promises.unborn_unless_any.Goals as goal

pub returns : goal.returns
returns g c = unborn_unless_any
