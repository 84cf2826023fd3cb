use Rattle.session_api.proofs.Leaving.{beginnings_tell}
use Rattle.session_api.proofs.told_promises.beginnings_tell.Goals as goal

pub returns : goal.returns
returns g c = beginnings_tell _ _ _
