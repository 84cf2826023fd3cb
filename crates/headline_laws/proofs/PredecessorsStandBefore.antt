-- Predecessors of members, with no premise on where members are.
use Rattle.headline_laws.proofs.PredecessorsStandBeforeWhereHere.{predecessors_stand_before_where_here}
use Rattle.headline_laws.specs.Recovering.{PredecessorsStandBefore}
use Rattle.headline_laws.proofs.MembersReplay.{members_are_found}

pub predecessors_stand_before : PredecessorsStandBefore
predecessors_stand_before splits before h after choice n t p l i k = predecessors_stand_before_where_here splits before h after choice n t p l i k (members_are_found splits before h after choice n t l i k)
