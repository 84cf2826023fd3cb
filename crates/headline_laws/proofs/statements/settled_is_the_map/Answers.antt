use Rattle.headline_laws.proofs.SettledIsTheMap.{settled_is_the_map}
use Rattle.headline_laws.proofs.statements.settled_is_the_map.Goals as goal

pub returns : goal.returns
returns c = settled_is_the_map
