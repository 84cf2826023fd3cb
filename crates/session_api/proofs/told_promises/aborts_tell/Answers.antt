use Rattle.session_api.proofs.Leaving.{aborts_tell}
use Rattle.session_api.proofs.told_promises.aborts_tell.Goals as goal

pub returns : goal.returns
returns g c = aborts_tell _ _ _ _
