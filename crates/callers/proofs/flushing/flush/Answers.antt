-- The gate left, so its records are in flight.
use Rattle.std.proofs.Common.{subst, Ok}
use Rattle.machine_calls.specs.Flights.{Departs}
use Rattle.callers.proofs.Flying.{flown}
use Rattle.callers.proofs.flushing.flush.Goals as goal

pub fly-requires-clause-up : goal.fly-requires-clause-up
fly-requires-clause-up g c =
    let m = g.M.Machine in let s = m.shard c.args.machine.now in let t = m.shard c.take_flight.new.self in let b = m.gate c.args.machine.now in let a = m.gate c.take_flight.new.self in let r = c.in-Ok in let f = c.in-Some.flight in
    (flown s t c.args.clock 0 b a r.taken.0 f r.ensures.told.0 r.ensures.told.1 (subst (λ x. Departs t b a (Ok (r.taken.0, x))) c.in-Some.is r.ensures.flight)).up

pub fly-requires-clause-flies : goal.fly-requires-clause-flies
fly-requires-clause-flies g c =
    let m = g.M.Machine in let s = m.shard c.args.machine.now in let t = m.shard c.take_flight.new.self in let b = m.gate c.args.machine.now in let a = m.gate c.take_flight.new.self in let r = c.in-Ok in let f = c.in-Some.flight in
    (flown s t c.args.clock 0 b a r.taken.0 f r.ensures.told.0 r.ensures.told.1 (subst (λ x. Departs t b a (Ok (r.taken.0, x))) c.in-Some.is r.ensures.flight)).flies
