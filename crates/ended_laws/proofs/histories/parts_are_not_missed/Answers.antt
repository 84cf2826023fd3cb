use Rattle.ended_laws.proofs.histories.parts_are_not_missed.Goals as goal
use Rattle.ended_laws.proofs.Beside.{parts_are_not_missed}

pub returns : goal.returns
returns c = parts_are_not_missed
