use Rattle.std.proofs.Common.{sym, subst}
use Rattle.interleaving_core.specs.Seated.{IsSeated}
use Rattle.interleaving_core.specs.declared.seat.Air.TheVariants.{Lost}
use Rattle.interleaving_core.proofs.Flying.{seated_lost}
use Rattle.interleaving_core.proofs.flushing.fail.Goals as goal

pub returns-clause-seated : goal.returns-clause-seated
returns-clause-seated g c =
    let m = g.M.Machine in let a = c.args in let s = m.shard a.machine.now in let t = m.shard c.land.new.self in
    subst (λ x. IsSeated t x (Lost a.flight.payload)) (sym c.land.ensures.gate)
    (seated_lost s t a.clock a.walker c.land.result a.flight c.fail.new.self c.requires.up c.requires.away c.land.ensures.told.1.enters c.fail.ensures.records)
