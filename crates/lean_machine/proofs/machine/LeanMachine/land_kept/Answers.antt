-- The end of a flush on what is kept is one on all.
use Rattle.std.proofs.Common.{subst}
use Rattle.clv_base.specs.declared.events.Entry.{Entry}
use Rattle.clv_base.specs.declared.events.Event.TheVariants.{FlushIn}
use Rattle.clv_base.specs.Events.{land}
use Rattle.machine_calls.specs.Steps.{Made}
use Rattle.lean_machine.specs.Lean.{whole, Leaned}
use Rattle.lean_machine.proofs.Steps.{home}
use Rattle.lean_machine.proofs.machine.LeanMachine.land_kept.Goals as goal

pub invariant_of-self : goal.invariant_of-self
invariant_of-self g c =
    (home c.spent_are_not_missed.ensures c.self.inside.forgotten.items _ c.self.invariant c.args.clock c.args.walker c.args.pushed _ c.land.result c.land.ensures.told).1

pub returns-clause-told : goal.returns-clause-told
returns-clause-told g c =
    let a = c.args in
    subst (λ (v : Leaned _). (x : Entry) × Made (land v.shard a.clock a.walker a.pushed) v.shard a.clock a.walker FlushIn c.land.result (whole c.self.inside.forgotten.items (g.M.Machine.shard c.land.new.self)) x) c.self.view_is
    (home c.spent_are_not_missed.ensures c.self.inside.forgotten.items _ c.self.invariant a.clock a.walker a.pushed _ c.land.result c.land.ensures.told).0
