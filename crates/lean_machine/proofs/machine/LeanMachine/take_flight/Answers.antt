-- The gate leaves with the same batch.
use Rattle.std.proofs.Common.{subst, Option, reverse}
use Rattle.clv_base.specs.declared.events.Entry.{Entry}
use Rattle.clv_base.specs.declared.events.Event.TheVariants.{FlushOut}
use Rattle.clv_base.specs.Events.{step}
use Rattle.machine_calls.specs.Flights.{outcome_in, Departs}
use Rattle.machine_calls.specs.Steps.{Tells}
use Rattle.ended_laws.specs.Recalled.{with_all}
use Rattle.lean_machine.specs.Lean.{whole, Leaned}
use Rattle.lean_machine.proofs.Steps.{stepped, departs}
use Rattle.lean_machine.proofs.machine.LeanMachine.take_flight.Goals as goal

pub invariant_of-self : goal.invariant_of-self
invariant_of-self g c =
    (stepped c.spent_are_not_missed.ensures c.self.inside.forgotten.items _ c.self.invariant c.args.clock c.args.walker FlushOut _ (outcome_in c.take_flight.result) c.take_flight.ensures.told).1

pub returns-clause-told : goal.returns-clause-told
returns-clause-told g c =
    let a = c.args in
    subst (λ (v : Leaned _). (x : Option Entry) × Tells (step v.shard a.clock a.walker FlushOut) v.shard a.clock a.walker FlushOut (outcome_in c.take_flight.result) (whole c.self.inside.forgotten.items (g.M.Machine.shard c.take_flight.new.self)) x) c.self.view_is
    (stepped c.spent_are_not_missed.ensures c.self.inside.forgotten.items _ c.self.invariant a.clock a.walker FlushOut _ (outcome_in c.take_flight.result) c.take_flight.ensures.told).0

pub returns-clause-flight : goal.returns-clause-flight
returns-clause-flight g c =
    let i = c.self.inside in let t = g.M.Machine.shard c.take_flight.new.self in
    subst (λ (v : Leaned _). Departs (whole i.forgotten.items t) v.gate (g.M.Machine.gate c.take_flight.new.self) c.take_flight.result) c.self.view_is
    (departs (with_all (reverse i.forgotten.items) t.requests) t (g.M.Machine.gate i.machine) (g.M.Machine.gate c.take_flight.new.self) c.take_flight.result c.take_flight.ensures.flight)
