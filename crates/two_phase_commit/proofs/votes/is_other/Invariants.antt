-- It is none of the parts so far.
use Rattle.std.proofs.Common.{◌≡◌, drop}
use Rattle.clv_base.specs.Orders.{nat_in}
use Rattle.clv_base.specs.Coordinator.{others}
use Rattle.two_phase_commit.proofs.votes.is_other.Given as goal

abbrev pub invariant-loop-part : goal.invariant-loop-part
invariant-loop-part l = nat_in l.from (others l.shard (drop l.part-index l.touched)) ≡ nat_in l.from (others l.shard l.touched)
