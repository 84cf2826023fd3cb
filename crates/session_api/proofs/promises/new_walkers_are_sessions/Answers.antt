use Rattle.session_api.proofs.New.{new_walkers_are_sessions}
use Rattle.session_api.proofs.promises.new_walkers_are_sessions.Goals as goal

pub returns : goal.returns
returns g c = new_walkers_are_sessions _ _ _
