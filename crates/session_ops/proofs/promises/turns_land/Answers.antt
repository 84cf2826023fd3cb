use Rattle.session_ops.proofs.Landing.{turns_land}
use Rattle.session_ops.proofs.promises.turns_land.Goals as goal

pub returns : goal.returns
returns g c = turns_land
