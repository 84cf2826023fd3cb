-- No vote so far is a no.
use Rattle.std.proofs.Common.{◌≡◌, drop, length}
use Rattle.clv_base.specs.Arrays.{present_from}
use Rattle.clv_base.specs.Coordinator.{first_no}
use Rattle.clv_base.proofs.lists.Votes.first_no.Given as goal

abbrev pub invariant-loop-shard : goal.invariant-loop-shard
invariant-loop-shard l = (first_no (present_from l.shard (drop l.shard l.self-inside.given)) ≡ first_no l.self) × (length l.self-inside.given ≡ 16)
