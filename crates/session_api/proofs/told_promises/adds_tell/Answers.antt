use Rattle.session_api.proofs.Pointing.{adds_tell}
use Rattle.session_api.proofs.told_promises.adds_tell.Goals as goal

pub returns : goal.returns
returns g c = adds_tell _ _ _
