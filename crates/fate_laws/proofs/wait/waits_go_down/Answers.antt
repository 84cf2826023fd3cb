use Rattle.fate_laws.proofs.Waits.WaitsGoDown.{waits_go_down}
use Rattle.fate_laws.proofs.wait.waits_go_down.Goals as goal

pub returns : goal.returns
returns c = waits_go_down
