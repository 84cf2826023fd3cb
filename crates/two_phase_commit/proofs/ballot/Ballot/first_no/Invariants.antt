-- No vote so far is a no.
use Rattle.std.proofs.Common.{◌≡◌, ◌≤◌, drop, length}
use Rattle.clv_base.specs.Arrays.{present_from}
use Rattle.clv_base.specs.Coordinator.{first_no}
use Rattle.two_phase_commit.proofs.ballot.Ballot.first_no.Given as goal

abbrev pub invariant-loop-shard : goal.invariant-loop-shard
invariant-loop-shard l = (first_no (present_from l.shard (drop l.shard l.self-inside.given.items)) ≡ first_no (l.self).votes) × (length l.self-inside.given.items ≤ 16)
