-- What is forgotten behind the event is not seen.
use Rattle.std.proofs.Common.{sym, subst, Option}
use Rattle.clv_base.specs.declared.events.Entry.{Entry}
use Rattle.clv_base.specs.Events.{step}
use Rattle.machine_calls.specs.Steps.{Tells}
use Rattle.lean_machine.specs.Lean.{Leaned}
use Rattle.lean_machine.proofs.machine.LeanMachine.step_event.Goals as goal

pub returns-in-Some-clause-told : goal.returns-in-Some-clause-told
returns-in-Some-clause-told g c =
    let a = c.args in
    subst (λ (v : Leaned _). (x : Option Entry) × Tells (step a.self.now.shard a.clock a.walker a.event) a.self.now.shard a.clock a.walker a.event c.step_kept-outcome.result v.shard x) (sym c.forget.ensures) c.step_kept-outcome.ensures.told
