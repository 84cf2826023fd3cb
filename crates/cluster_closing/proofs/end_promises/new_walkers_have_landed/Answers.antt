use Rattle.cluster_closing.proofs.Landing.{new_have_landed}
use Rattle.cluster_closing.proofs.end_promises.new_walkers_have_landed.Goals as goal

pub returns : goal.returns
returns g c = new_have_landed
