use Rattle.fate_laws.proofs.FallenAreUncommitted.{fallen_are_uncommitted}
use Rattle.fate_laws.proofs.falls.fallen_are_uncommitted.Goals as goal

pub returns : goal.returns
returns c = fallen_are_uncommitted
