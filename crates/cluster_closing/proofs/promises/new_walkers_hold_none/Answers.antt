use Rattle.cluster_closing.proofs.Holding.{new_walkers_hold_none}
use Rattle.cluster_closing.proofs.promises.new_walkers_hold_none.Goals as goal

pub returns : goal.returns
returns g c = new_walkers_hold_none
