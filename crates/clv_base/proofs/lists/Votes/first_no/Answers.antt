-- At the first place all votes are before us.
use Rattle.std.proofs.Common.{ap}
use Rattle.clv_base.specs.Coordinator.{first_no}
use Rattle.clv_base.proofs.lists.Votes.first_no.Goals as goal

pub loop-shard-init : goal.loop-shard-init
loop-shard-init c = (ap first_no c.self.view_is, c.self.invariant)
