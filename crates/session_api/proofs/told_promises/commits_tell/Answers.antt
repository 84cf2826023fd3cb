use Rattle.session_api.proofs.Committing.{commits_tell}
use Rattle.session_api.proofs.told_promises.commits_tell.Goals as goal

pub returns : goal.returns
returns g c = commits_tell _ _ _
