use Rattle.headline_laws.proofs.PredecessorsStandBeforeWhereHere.{predecessors_stand_before_where_here}
use Rattle.headline_laws.proofs.where_here.predecessors_stand_before_where_here.Goals as goal

pub returns : goal.returns
returns c = predecessors_stand_before_where_here
