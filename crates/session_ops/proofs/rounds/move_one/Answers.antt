use Rattle.session_ops.specs.Rounds.{FlushedOn, CarriedOn, MovedOn}
use Rattle.session_ops.proofs.Noting.{passes_on, moved_on, error_passed}
use Rattle.session_ops.proofs.rounds.move_one.Goals as goal

pub returns-in-Ok-clause-round : goal.returns-in-Ok-clause-round
returns-in-Ok-clause-round g c = let w = c.args.walker.now in let u = c.flush.new.walker in let v = c.carry_all.new.walker in let e = c.in-Ok.ensures in let n = c.args.shard in
    passes_on {A = Unit {0}} {B = Unit {0}} c.args.own.now (FlushedOn n) (CarriedOn n) (MovedOn n) w.number u.number w.clock u.clock v.clock w.passes.items u.passes.items v.passes.items c.args.met.now c.flush.new.met c.carry_all.new.met tt c.carry_all.result (λ xs ys l f k. moved_on n c.flush.new.met c.carry_all.new.met xs ys l f k) e.walker.1.0 e.flush
    c.carry_all.ensures.carried

pub returns-in-Err-clause-round : goal.returns-in-Err-clause-round
returns-in-Err-clause-round g c = let w = c.args.walker.now in let u = c.flush.new.walker in let n = c.args.shard in
    error_passed {A = Unit {0}} c.args.own.now (FlushedOn n) (MovedOn n) w.number w.clock u.clock w.passes.items u.passes.items c.args.met.now c.flush.new.met c.in-Err.error c.in-Err.ensures.flush
