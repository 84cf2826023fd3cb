use Rattle.cluster_closing.proofs.Holding.{turns_fetch_none}
use Rattle.cluster_closing.proofs.promises.turns_fetch_none.Goals as goal

pub returns : goal.returns
returns g c = turns_fetch_none
