use Rattle.session_api.proofs.New.{new_walkers_keep_none}
use Rattle.session_api.proofs.promises.new_walkers_keep_none.Goals as goal

pub returns : goal.returns
returns g c = new_walkers_keep_none _ _ _
