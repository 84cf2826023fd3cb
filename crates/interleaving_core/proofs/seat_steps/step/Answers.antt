use Rattle.std.proofs.Common.{sym, subst, ◌∙◌}
use Rattle.clv_base.specs.Events.{step}
use Rattle.crash_laws.proofs.Laws.{step_keeps}
use Rattle.interleaving_core.specs.Seated.{IsSeated}
use Rattle.interleaving_core.proofs.SeatAnswering.{made_some}
use Rattle.interleaving_core.proofs.Keeping.{no_flush, seated_still}
use Rattle.interleaving_core.proofs.seat_steps.step.Goals as goal

pub returns-in-Ok-clause-seated : goal.returns-in-Ok-clause-seated
returns-in-Ok-clause-seated g c =
    let m = g.M.Machine in let a = c.args in let s = m.shard a.seat.now.machine in let t = m.shard c.step-answer.new.self in
    let told = c.in-Ok.ensures.told in
    let e = made_some (step s a.clock a.walker a.event) s a.clock a.walker a.event c.in-Ok.outcome t told.0 told.1 (λ q. c.if-is_made.true (c.entries.ensures ∙ q ∙ sym c.entries-before.ensures)) in
    subst (λ x. IsSeated t x a.seat.now.air) (sym c.step-answer.ensures.gate)
    (seated_still s t (m.gate a.seat.now.machine) a.seat.now.air c.requires.fronts (step_keeps s a.clock a.walker a.event c.in-Ok.outcome t e (no_flush a.event c.requires.stepped)) c.requires.seated)
