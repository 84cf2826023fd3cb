-- A request that is there is fit.
use Rattle.std.proofs.Common.{sym}
use Rattle.law_base.proofs.Rows.{rows_get}
use Rattle.two_phase_commit.specs.Coordinated.{IsFit}
use Rattle.two_phase_commit.proofs.coordinator.Coordinator.awaits_vote.Goals as goal

pub counts_vote-requires : goal.counts_vote-requires
counts_vote-requires c = rows_get (λ p. IsFit c.self.inside.shard p.1) c.args.tx c.in-Some.request.now c.self.inside.requests.entries c.self.invariant.0 (sym c.in-Some.ensures.value)
