use Rattle.std.proofs.Common.{refl}
use Rattle.session_ops.specs.Rounds.{CarriedOn, Whatever}
use Rattle.session_ops.proofs.Noting.{same_met, none_passed, let_go}
use Rattle.session_ops.proofs.rounds.carry_home.Goals as goal

pub returns-then-has_others-clause-round : goal.returns-then-has_others-clause-round
returns-then-has_others-clause-round g c = let w = c.args.walker.now in let v = c.carry_all.new.walker in
    let_go {A = Unit {0}} c.args.own.now (CarriedOn c.args.home) Whatever w.number w.clock v.clock w.passes.items v.passes.items c.args.met.now c.carry_all.new.met c.carry_all.result (λ ts h. tt) c.carry_all.ensures.carried

pub returns-else-has_others-clause-round : goal.returns-else-has_others-clause-round
returns-else-has_others-clause-round g c = let w = c.args.walker.now in let x = c.args.met.now in none_passed {A = Unit {0}} c.args.own.now Whatever w.number w.clock w.passes.items x x tt refl (same_met x) tt
