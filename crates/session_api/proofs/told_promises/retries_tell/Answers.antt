use Rattle.session_api.proofs.Leaving.{retries_tell}
use Rattle.session_api.proofs.told_promises.retries_tell.Goals as goal

pub returns : goal.returns
returns g c = retries_tell _ _ _
