use Rattle.fate_laws.proofs.FallenAreUncommitted.{committed_never_fell}
use Rattle.fate_laws.proofs.falls.committed_never_fell.Goals as goal

pub returns : goal.returns
returns c = committed_never_fell
