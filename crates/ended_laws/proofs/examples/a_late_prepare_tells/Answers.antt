use Rattle.ended_laws.proofs.examples.a_late_prepare_tells.Goals as goal
use Rattle.ended_laws.proofs.Worked.{a_late_prepare_tells}

pub returns : goal.returns
returns c = a_late_prepare_tells
