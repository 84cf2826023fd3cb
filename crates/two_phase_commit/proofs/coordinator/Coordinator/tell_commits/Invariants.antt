-- What was pushed, and what the rest is told, are all.
use Rattle.std.proofs.Common.{◌≡◌, ◌++◌, drop}
use Rattle.two_phase_commit.specs.Reminding.{each_at, dones_of}
use Rattle.two_phase_commit.proofs.coordinator.Coordinator.tell_commits.Given as goal

abbrev pub invariant-loop-tx : goal.invariant-loop-tx
invariant-loop-tx l =
    l.list.items ++ each_at (dones_of l.self.shard l.durable) l.self.requests (drop l.tx-index l.txs) ≡ l.fn.list.items ++ each_at (dones_of l.self.shard l.durable) l.self.requests l.txs
