use Rattle.fate_laws.proofs.Waits.WaitsGoDown.{waits_have_no_cycle}
use Rattle.fate_laws.proofs.wait.waits_have_no_cycle.Goals as goal

pub returns : goal.returns
returns c = waits_have_no_cycle
