use Rattle.std.proofs.Common.{refl}
use Rattle.std.proofs.lemmas.Bool.{both_ways}
use Rattle.session_ops.specs.Rounds.{MovedOn, TriedIfOwn}
use Rattle.session_ops.proofs.Noting.{same_met, none_passed, let_go}
use Rattle.session_ops.proofs.rounds.move_if_own.Goals as goal

pub returns-then-is_own-clause-round : goal.returns-then-is_own-clause-round
returns-then-is_own-clause-round g c = let w = c.args.walker.now in let v = c.move_one.new.walker in let n = c.args.shard in
    let_go {A = Unit {0}} c.args.own.now (MovedOn n) (TriedIfOwn c.args.flushed.now n) w.number w.clock v.clock w.passes.items v.passes.items c.args.met.now c.move_one.new.met c.move_one.result (λ ts h is a. h.tried a) c.move_one.ensures.round

pub returns-else-is_own-clause-round : goal.returns-else-is_own-clause-round
returns-else-is_own-clause-round g c = let w = c.args.walker.now in let x = c.args.met.now in let own = c.args.own.now in
    none_passed {A = Unit {0}} own (TriedIfOwn c.args.flushed.now c.args.shard) w.number w.clock w.passes.items x x tt refl (same_met x) (λ is a. absurd (both_ways c.is_own.result c.if-is_own.false (c.is_own.ensures.all is)))
