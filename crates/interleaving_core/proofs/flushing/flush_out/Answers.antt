use Rattle.std.proofs.Common.{sym, subst, Ok}
use Rattle.machine_calls.specs.Flights.{Departs}
use Rattle.interleaving_core.specs.Seated.{IsSeated}
use Rattle.interleaving_core.proofs.Flying.{departed, stayed, seated_away}
use Rattle.interleaving_core.proofs.flushing.flush_out.Goals as goal

pub returns-in-Some-clause-seated : goal.returns-in-Some-clause-seated
returns-in-Some-clause-seated g c =
    let m = g.M.Machine in let a = c.args in let s = m.shard a.seat.now.machine in let t = m.shard c.take_flight.new.self in
    let before = m.gate a.seat.now.machine in let after = m.gate c.take_flight.new.self in let o = c.in-Ok.taken.0 in let f = c.in-Some.flight in
    let told = c.in-Ok.ensures.told in
    let d = subst (λ x. Departs t before after (Ok (o, x))) c.in-Some.is c.in-Ok.ensures.flight in
    subst (λ x. IsSeated t after x) (sym c.replace.ensures.after)
    (seated_away s t a.clock a.walker before after o f a.seat.now.air c.requires.fronts c.requires.seated (departed s t a.clock a.walker before after o f told.0 told.1 d) d)

pub returns-in-None-clause-moves : goal.returns-in-None-clause-moves
returns-in-None-clause-moves g c =
    let m = g.M.Machine in let a = c.args in let s = m.shard a.seat.now.machine in let t = m.shard c.take_flight.new.self in
    let before = m.gate a.seat.now.machine in let after = m.gate c.take_flight.new.self in let o = c.in-Ok.taken.0 in
    let d = subst (λ x. Departs t before after (Ok (o, x))) c.in-None.is c.in-Ok.ensures.flight in
    stayed s t a.clock a.walker o c.in-Ok.ensures.told.0 c.in-Ok.ensures.told.1 d.0

pub returns-in-None-clause-seated : goal.returns-in-None-clause-seated
returns-in-None-clause-seated g c =
    let m = g.M.Machine in let a = c.args in let s = m.shard a.seat.now.machine in let t = m.shard c.take_flight.new.self in
    let before = m.gate a.seat.now.machine in let after = m.gate c.take_flight.new.self in let o = c.in-Ok.taken.0 in let air = a.seat.now.air in
    let d = subst (λ x. Departs t before after (Ok (o, x))) c.in-None.is c.in-Ok.ensures.flight in
    let same = (stayed s t a.clock a.walker o c.in-Ok.ensures.told.0 c.in-Ok.ensures.told.1 d.0).1 in
    subst (λ x. IsSeated t x air) (sym d.1) (subst (λ u. IsSeated u before air) (sym same) c.requires.seated)
