use Rattle.serial_laws.proofs.PartsAreNumbered.{parts_are_numbered}
use Rattle.serial_laws.proofs.shares.parts_are_numbered.Goals as goal

pub returns : goal.returns
returns c = parts_are_numbered
