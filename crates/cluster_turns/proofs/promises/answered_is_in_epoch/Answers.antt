use Rattle.cluster_turns.proofs.Unbearing.{answered_is_in_epoch}
use Rattle.cluster_turns.proofs.promises.answered_is_in_epoch.Goals as goal

pub returns : goal.returns
returns g c = answered_is_in_epoch
