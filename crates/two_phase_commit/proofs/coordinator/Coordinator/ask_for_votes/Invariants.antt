-- What was pushed, and what the rest is asked for, are all.
use Rattle.std.proofs.Common.{◌≡◌, ◌++◌, drop}
use Rattle.two_phase_commit.specs.Reminding.{each_at, votes_of}
use Rattle.two_phase_commit.proofs.coordinator.Coordinator.ask_for_votes.Given as goal

abbrev pub invariant-loop-tx : goal.invariant-loop-tx
invariant-loop-tx l =
    l.list.items ++ each_at (votes_of l.self.shard) l.self.requests (drop l.tx-index l.txs) ≡ l.fn.list.items ++ each_at (votes_of l.self.shard) l.self.requests l.txs
