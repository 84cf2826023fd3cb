use Rattle.cluster_turns.proofs.Unbearing.{ends_unbear}
use Rattle.cluster_turns.proofs.promises.ends_unbear.Goals as goal

pub returns : goal.returns
returns g c = ends_unbear
