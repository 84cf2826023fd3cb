use Rattle.cluster_closing.proofs.Holding.{new_walkers_fetched_none}
use Rattle.cluster_closing.proofs.promises.new_walkers_fetched_none.Goals as goal

pub returns : goal.returns
returns g c = new_walkers_fetched_none
