use Rattle.cluster_closing.proofs.Holding.{fetches_hold_one}
use Rattle.cluster_closing.proofs.promises.fetches_hold_one.Goals as goal

pub returns : goal.returns
returns g c = fetches_hold_one
