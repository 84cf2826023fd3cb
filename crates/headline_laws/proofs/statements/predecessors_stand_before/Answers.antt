use Rattle.headline_laws.proofs.PredecessorsStandBefore.{predecessors_stand_before}
use Rattle.headline_laws.proofs.statements.predecessors_stand_before.Goals as goal

pub returns : goal.returns
returns c = predecessors_stand_before
