-- The requests so far, and those of the rest, are all.
use Rattle.std.proofs.Common.{◌≡◌, ◌++◌, drop}
use Rattle.clv_base.specs.Coordinator.{restored_requests}
use Rattle.two_phase_commit.specs.Asked.{AreAsked}
use Rattle.two_phase_commit.specs.Waiting.{waits}
use Rattle.tx_table.specs.Index.{IsIndex}
use Rattle.two_phase_commit.proofs.coordinator.Coordinator.restored.Given as goal

abbrev pub invariant-loop-commit : goal.invariant-loop-commit
invariant-loop-commit l = record {
  all : l.requests.entries ++ restored_requests (drop l.commit-index l.unended) ≡ restored_requests l.unended;
  index : IsIndex (waits l.shard) l.requests.entries l.waiting;
  asked : AreAsked l.shard l.asked.rows l.requests.entries;
}
