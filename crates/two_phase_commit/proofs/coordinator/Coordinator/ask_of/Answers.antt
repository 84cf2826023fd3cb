-- A request that is there is fit.
use Rattle.std.proofs.Common.{sym}
use Rattle.law_base.proofs.Rows.{rows_get}
use Rattle.two_phase_commit.specs.Coordinated.{IsFit}
use Rattle.two_phase_commit.proofs.coordinator.Coordinator.ask_of.Goals as goal

pub remind_votes-requires : goal.remind_votes-requires
remind_votes-requires c = rows_get (λ p. IsFit c.self.inside.shard p.1) c.args.tx c.in-Some.request.now c.self.inside.requests.entries c.self.invariant.0 (sym c.in-Some.ensures.value)
