use Rattle.headline_laws.proofs.SettledIsTheMapWhereReadersWroteNothing.{settled_opens_clear}
use Rattle.headline_laws.proofs.where_here.settled_opens_clear.Goals as goal

pub returns : goal.returns
returns c = settled_opens_clear
