use Rattle.cluster_turns.proofs.Unbearing.{unborn_is_free}
use Rattle.cluster_turns.proofs.promises.unborn_is_free.Goals as goal

pub returns : goal.returns
returns g c = unborn_is_free
