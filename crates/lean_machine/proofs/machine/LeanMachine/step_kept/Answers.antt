-- A call on what is kept is one on all.
use Rattle.std.proofs.Common.{subst, Option}
use Rattle.clv_base.specs.declared.events.Entry.{Entry}
use Rattle.clv_base.specs.Events.{step}
use Rattle.machine_calls.specs.Steps.{Tells}
use Rattle.lean_machine.specs.Lean.{whole, Leaned}
use Rattle.lean_machine.proofs.Steps.{stepped}
use Rattle.lean_machine.proofs.machine.LeanMachine.step_kept.Goals as goal

pub invariant_of-self : goal.invariant_of-self
invariant_of-self g c =
    (stepped c.spent_are_not_missed.ensures c.self.inside.forgotten.items _ c.self.invariant c.args.clock c.args.walker c.args.event _ c.step.result c.step.ensures.told).1

pub returns-clause-told : goal.returns-clause-told
returns-clause-told g c =
    let a = c.args in
    subst (λ (v : Leaned _). (x : Option Entry) × Tells (step v.shard a.clock a.walker a.event) v.shard a.clock a.walker a.event c.step.result (whole c.self.inside.forgotten.items (g.M.Machine.shard c.step.new.self)) x) c.self.view_is
    (stepped c.spent_are_not_missed.ensures c.self.inside.forgotten.items _ c.self.invariant a.clock a.walker a.event _ c.step.result c.step.ensures.told).0
