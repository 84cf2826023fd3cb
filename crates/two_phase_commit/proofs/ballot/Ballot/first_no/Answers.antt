-- At the first place all votes are before us.
use Rattle.std.proofs.Common.{ap}
use Rattle.clv_base.specs.Coordinator.{first_no}
use Rattle.two_phase_commit.specs.Ballots.{Ballot}
use Rattle.two_phase_commit.proofs.ballot.Ballot.first_no.Goals as goal

pub loop-shard-init : goal.loop-shard-init
loop-shard-init c = (ap (λ (b : Ballot). first_no b.votes) c.self.view_is, c.self.invariant)
