-- The Asks so far, and those of the rest, are all.
use Rattle.std.proofs.Common.{◌≡◌, ◌++◌, drop}
use Rattle.clv_base.specs.Participant.{asks}
use Rattle.two_phase_commit.proofs.participant.Participant.asks.Given as goal

abbrev pub invariant-loop-tx : goal.invariant-loop-tx
invariant-loop-tx l = l.list.items ++ asks l.self.shard l.self.voters (drop l.tx-index l.waiting) ≡ asks l.self.shard l.self.voters l.waiting
