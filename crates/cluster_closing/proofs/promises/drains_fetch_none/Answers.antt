use Rattle.cluster_closing.proofs.Holding.{drains_fetch_none}
use Rattle.cluster_closing.proofs.promises.drains_fetch_none.Goals as goal

pub returns : goal.returns
returns g c = drains_fetch_none
