use Rattle.session_api.proofs.Pointing.{points_tell}
use Rattle.session_api.proofs.told_promises.points_tell.Goals as goal

pub returns : goal.returns
returns g c = points_tell _ _ _
