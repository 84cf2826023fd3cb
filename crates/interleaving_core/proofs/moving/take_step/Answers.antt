use Rattle.std.proofs.Common.{ap, subst, ◌∙◌}
use Rattle.std.specs.Prelude.{IfOk}
use Rattle.clv_base.specs.Events.{step}
use Rattle.crash_laws.specs.Moves.{Moves}
use Rattle.interleaving_core.proofs.Answering.{answer_is}
use Rattle.interleaving_core.proofs.moving.take_step.Goals as goal

pub returns-clause-moves : goal.returns-clause-moves
returns-clause-moves g c =
    let m = g.M.Machine in let a = c.args in let s = m.shard a.seat.now.machine in let t = m.shard c.step.new.seat.machine in
    subst (λ x. IfOk c.step.result (λ o. Moves x s o t)) (ap (step s a.clock a.made.now.walker) c.in_ok-event.ensures ∙ answer_is a.clock a.made.now s a.made.now.event c.requires.stepped) c.step.ensures.moves
