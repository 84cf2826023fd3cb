use Rattle.session_api.proofs.New.{new_walkers_rest}
use Rattle.session_api.proofs.promises.new_walkers_rest.Goals as goal

pub returns : goal.returns
returns g c = new_walkers_rest _ _ _
