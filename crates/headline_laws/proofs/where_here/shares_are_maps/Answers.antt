use Rattle.headline_laws.proofs.SharesAreMaps.{shares_are_maps}
use Rattle.headline_laws.proofs.where_here.shares_are_maps.Goals as goal

pub returns : goal.returns
returns c = shares_are_maps
