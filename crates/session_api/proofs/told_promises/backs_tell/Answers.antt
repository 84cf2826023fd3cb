use Rattle.session_api.proofs.Backing.{backs_tell}
use Rattle.session_api.proofs.told_promises.backs_tell.Goals as goal

pub returns : goal.returns
returns g c = backs_tell _ _ _
