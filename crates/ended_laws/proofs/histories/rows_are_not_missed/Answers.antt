use Rattle.ended_laws.proofs.histories.rows_are_not_missed.Goals as goal
use Rattle.ended_laws.proofs.Along.{rows_are_not_missed}

pub returns : goal.returns
returns c = rows_are_not_missed
