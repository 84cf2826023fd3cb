use Rattle.std.proofs.Common.{length}
use Rattle.session_ops.specs.Rounds.{BothTried, OwnTried}
use Rattle.session_ops.proofs.Noting.{passes_on, both_tried}
use Rattle.session_ops.proofs.rounds.move_in_order.Goals as goal

pub returns-in-Ok-clause-round : goal.returns-in-Ok-clause-round
returns-in-Ok-clause-round g c = let w = c.args.walker.now in let u = c.move_own.new.walker in let v = c.move_home.new.walker in let e = c.in-Ok.ensures in let own = c.args.own.now in let f = c.args.flushes.now in let count = length c.args.shards.now.locks.items in
    passes_on {A = Unit {0}} {B = Unit {0}} own (OwnTried f.others count) (OwnTried f.home count) (BothTried f.others f.home count) w.number u.number w.clock u.clock v.clock w.passes.items u.passes.items v.passes.items
    c.args.met.now c.move_own.new.met c.move_home.new.met tt c.move_home.result (λ xs ys l h k. both_tried f.others f.home count c.move_own.new.met c.move_home.new.met xs ys l h k) e.walker.1.0 e.round c.move_home.ensures.round
