use Rattle.session_ops.proofs.Landing.{looks_land}
use Rattle.session_ops.proofs.promises.looks_land.Goals as goal

pub returns : goal.returns
returns g c = looks_land
