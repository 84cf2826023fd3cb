use Rattle.std.proofs.Common.{length}
use Rattle.session_ops.proofs.Deciding.{nothing_to_drop}
use Rattle.session_ops.proofs.aborting.abort.Goals as goal

pub returns-in-None-clause-drops : goal.returns-in-None-clause-drops
returns-in-None-clause-drops g c = let w = c.args.walker.now in let p = c.args.place.now in
    nothing_to_drop {A = Unit {0}} (length c.args.shards.now.locks.items) w.number w.clock w.passes.items p.tx p.touched tt c.in-None.ensures.none
