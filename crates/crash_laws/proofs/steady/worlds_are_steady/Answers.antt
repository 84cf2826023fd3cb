use Rattle.crash_laws.proofs.WorldsAreSteady.{worlds_are_steady}
use Rattle.crash_laws.proofs.steady.worlds_are_steady.Goals as goal

pub returns : goal.returns
returns c = worlds_are_steady
