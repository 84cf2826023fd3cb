use Rattle.cluster_closing.proofs.Staying.{held_disks_stay}
use Rattle.cluster_closing.proofs.promises.held_disks_stay.Goals as goal

pub returns : goal.returns
returns g c = held_disks_stay
