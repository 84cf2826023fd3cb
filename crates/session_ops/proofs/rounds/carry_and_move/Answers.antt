use Rattle.std.proofs.Common.{length}
use Rattle.session_ops.specs.Rounds.{BothTried, EveryCarried, OwnMoved}
use Rattle.session_ops.proofs.Noting.{passes_on, own_moved}
use Rattle.session_ops.proofs.rounds.carry_and_move.Goals as goal

pub returns-in-Ok-clause-round : goal.returns-in-Ok-clause-round
returns-in-Ok-clause-round g c = let w = c.args.walker.now in let u = c.carry_and_flush.new.walker in let v = c.carry_every.new.walker in let e = c.in-Ok.ensures in let own = c.args.own.now in let f = c.args.flushes.now in let count = length c.args.shards.now.locks.items in
    passes_on {A = Unit {0}} {B = Unit {0}} own (BothTried f.others f.home count) (EveryCarried count) (OwnMoved f.others f.home count) w.number u.number w.clock u.clock v.clock w.passes.items u.passes.items v.passes.items
    c.args.met.now c.carry_and_flush.new.met c.carry_every.new.met tt c.carry_every.result (λ xs ys l h k. own_moved f.others f.home count c.carry_and_flush.new.met c.carry_every.new.met xs ys l h k) e.walker.1.0 e.round c.carry_every.ensures.round
