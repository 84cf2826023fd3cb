use Rattle.ended_laws.proofs.Worked.{a_look_tells}
use Rattle.ended_laws.proofs.examples.a_look_tells.Goals as goal

pub returns : goal.returns
returns c = a_look_tells
