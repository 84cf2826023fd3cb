use Rattle.std.proofs.Common.{length}
use Rattle.session_ops.specs.Rounds.{AllMoved, Whatever}
use Rattle.session_ops.proofs.Noting.{passes_on, all_moved_before}
use Rattle.session_ops.proofs.rounds.move_and_ask.Goals as goal

pub returns-in-Ok-clause-round : goal.returns-in-Ok-clause-round
returns-in-Ok-clause-round g c = let w = c.args.walker.now in let u = c.move_all.new.walker in let v = c.stand_by.new.walker in let e = c.in-Ok.ensures in let count = length c.args.shards.now.locks.items in
    passes_on {A = Unit {0}} {B = Unit {0}} c.args.own.now (AllMoved count) Whatever (AllMoved count) w.number u.number w.clock u.clock v.clock w.passes.items u.passes.items v.passes.items c.args.met.now c.move_all.new.met c.stand_by.new.met tt c.stand_by.result
    (λ xs ys l f k. all_moved_before count c.move_all.new.met c.stand_by.new.met xs ys l f) e.walker.1.0 e.round c.stand_by.ensures.round
