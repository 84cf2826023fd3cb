use Rattle.std.proofs.Common.{true, false, Ok, Err, sym, ap, subst}
use Rattle.clv_base.specs.declared.events.Event.TheVariants.{FlushOut}
use Rattle.cluster_turns.specs.Turns.{EventTold}
use Rattle.cluster_turns.specs.Walkers.{Walked}
use Rattle.machine_laws.specs.Gates.{InAir}
use Rattle.cluster_turns.specs.Flights.{FlightTaken, AwayAt, LandTold}
use Rattle.cluster_turns.specs.Told.{FlushTold, one_turn, two_turns}
use Rattle.cluster_turns.proofs.flushing.flush_once.Goals as goal

pub fly-requires-clause-away : goal.fly-requires-clause-away
fly-requires-clause-away g c = let w = c.args.walker.now in let u = c.depart.new.walker in let e = c.in-Ok.ensures in
    let k = subst (λ o. FlightTaken g.M.Gate.Gate.is_shut g.M.Gate.Gate.faults g.M.Gate.Gate.shard g.M.Gate.Gate.logs c.args.shard w.number u.clock u.passes.items (Ok (c.in-Ok.taken.0, o))) c.in-Some.is e.flight in
    subst (λ n. AwayAt c.args.shard n (λ layout s. InAir s c.in-Some.flight.upto c.in-Some.flight.payload.items (g.M.Gate.Gate.faults c.in-Some.flight.as_taken.value) (g.M.Gate.Gate.is_shut c.in-Some.flight.gate) (g.M.Gate.Gate.faults c.in-Some.flight.gate) (g.M.Gate.Gate.shard c.in-Some.flight.gate) (g.M.Gate.Gate.logs c.in-Some.flight.gate layout)) u.passes.items) (sym e.walker.1.0) k.2

pub fly-requires-clause-clock : goal.fly-requires-clause-clock
fly-requires-clause-clock g c = let w = c.args.walker.now in let u = c.depart.new.walker in let e = c.in-Ok.ensures in
    let k = subst (λ o. FlightTaken g.M.Gate.Gate.is_shut g.M.Gate.Gate.faults g.M.Gate.Gate.shard g.M.Gate.Gate.logs c.args.shard w.number u.clock u.passes.items (Ok (c.in-Ok.taken.0, o))) c.in-Some.is e.flight in k.1

pub returns-in-Some-clause-flush : goal.returns-in-Some-clause-flush
returns-in-Some-clause-flush g c = let w = c.args.walker.now in let u = c.depart.new.walker in let v = c.fly.new.walker in let e = c.in-Ok.ensures in let f = c.fly.ensures.walked in let upto = c.in-Some.flight.upto in let b = f.0 in
    let k = subst (λ o. FlightTaken g.M.Gate.Gate.is_shut g.M.Gate.Gate.faults g.M.Gate.Gate.shard g.M.Gate.Gate.logs c.args.shard w.number u.clock u.passes.items (Ok (c.in-Ok.taken.0, o))) c.in-Some.is e.flight in
    subst (λ r. FlushTold c.args.shard w.number w.clock w.passes.items r v.clock v.passes.items) (sym f.1)
    (two_turns upto u.clock v.clock b u.passes.items v.passes.items
    (subst (λ o. Walked (EventTold w.clock w.number FlushOut (Ok o) u.clock) c.args.shard w.number w.passes.items u.passes.items) k.0 e.walked)
    (subst (λ n. Walked (LandTold u.clock n b upto v.clock) c.args.shard n u.passes.items v.passes.items) e.walker.1.0 f.2) f.3)

pub returns-in-None-clause-flush : goal.returns-in-None-clause-flush
returns-in-None-clause-flush g c = let w = c.args.walker.now in let u = c.depart.new.walker in let e = c.in-Ok.ensures in
    let k = subst (λ o. FlightTaken g.M.Gate.Gate.is_shut g.M.Gate.Gate.faults g.M.Gate.Gate.shard g.M.Gate.Gate.logs c.args.shard w.number u.clock u.passes.items (Ok (c.in-Ok.taken.0, o))) c.in-None.is e.flight in
    subst (λ r. FlushTold c.args.shard w.number w.clock w.passes.items r u.clock u.passes.items) (sym c.answer_without_flight.ensures)
    (one_turn (Ok c.in-Ok.taken.0) u.clock u.passes.items (ap (λ b. elim b [ true ↦ false | false ↦ true ]) k) e.walked)

pub returns-in-Err-clause-flush : goal.returns-in-Err-clause-flush
returns-in-Err-clause-flush g c = let w = c.args.walker.now in let u = c.depart.new.walker in let e = c.in-Err.ensures in
    subst (λ r. FlushTold c.args.shard w.number w.clock w.passes.items r u.clock u.passes.items) (sym c.answer_without_flight-in-Err.ensures) (one_turn (Err c.in-Err.error) u.clock u.passes.items Rattle.std.proofs.Common.refl e.walked)
