use Rattle.cluster_closing.proofs.Holding.{turns_hold_none}
use Rattle.cluster_closing.proofs.promises.turns_hold_none.Goals as goal

pub returns : goal.returns
returns g c = turns_hold_none
