use Rattle.session_api.proofs.New.{scripts_follow}
use Rattle.session_api.proofs.promises.scripts_follow.Goals as goal

pub returns : goal.returns
returns g c = scripts_follow _ _ _
