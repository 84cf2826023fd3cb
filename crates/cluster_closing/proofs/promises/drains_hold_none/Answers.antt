use Rattle.cluster_closing.proofs.Holding.{drains_hold_none}
use Rattle.cluster_closing.proofs.promises.drains_hold_none.Goals as goal

pub returns : goal.returns
returns g c = drains_hold_none
