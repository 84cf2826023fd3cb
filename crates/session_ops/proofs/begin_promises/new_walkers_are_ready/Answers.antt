use Rattle.session_ops.proofs.New.{new_walkers_are_ready}
use Rattle.session_ops.proofs.begin_promises.new_walkers_are_ready.Goals as goal

pub returns : goal.returns
returns g c = new_walkers_are_ready _ _ _
