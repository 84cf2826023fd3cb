use Rattle.cluster_closing.proofs.ReviveLeaving.{still_stands}
use Rattle.cluster_closing.proofs.walker_promises.what_is_left_may_stand.Goals as goal

pub returns : goal.returns
returns c = still_stands
