use Rattle.cluster_closing.proofs.Holding.{looks_hold_none}
use Rattle.cluster_closing.proofs.promises.looks_hold_none.Goals as goal

pub returns : goal.returns
returns g c = looks_hold_none
