-- One row less is kept, and one more is forgotten.
use Rattle.std.proofs.Common.{sym, ap, ◌∙◌}
use Rattle.clv_base.specs.State.{Shard}
use Rattle.lean_machine.specs.Lean.{whole}
use Rattle.lean_machine.proofs.Forgotten.{Forgot, forgot_as}
use Rattle.lean_machine.proofs.machine.LeanMachine.forget.Given as given
use Rattle.lean_machine.proofs.machine.LeanMachine.forget.Goals as goal

the_change : (g : given.Over) (c : goal.After-note g) → Forgot c.self.inside.forgotten.items c.note.new.forgotten.items (g.M.Machine.shard c.self.inside.machine) (g.M.Machine.shard c.forget_request.new.self)
the_change g c =
    let i = c.self.inside in let e = c.forget_request.ensures in
    forgot_as c.spent_are_not_missed.ensures i.forgotten.items (g.M.Machine.shard i.machine) (g.M.Machine.shard c.forget_request.new.self) c.args.tx c.self.invariant (sym c.is_spent.ensures ∙ c.if-not-is_spent.false) e.rising e.shard c.note.new.forgotten.items c.in-Some.request c.note.ensures (sym c.in-Some.is ∙ e.given)

pub invariant_of-self : goal.invariant_of-self
invariant_of-self g c = (the_change g c).1

pub returns-in-Some : goal.returns-in-Some
returns-in-Some g c =
    let i = c.self.inside in
    ap (λ (s : Shard). record { shard = s; gate = g.M.Machine.gate c.forget_request.new.self }) (the_change g c).0 ∙ ap (λ k. record { shard = whole i.forgotten.items (g.M.Machine.shard i.machine); gate = k }) c.forget_request.ensures.gate ∙ c.self.view_is
