use Rattle.std.proofs.Common.{refl}
use Rattle.session_ops.specs.Rounds.{Whatever}
use Rattle.session_ops.proofs.Noting.{same_met, none_passed}
use Rattle.session_ops.proofs.rounds.stand_by.Goals as goal

pub returns-then-met-clause-round : goal.returns-then-met-clause-round
returns-then-met-clause-round g c = let w = c.args.walker.now in let x = c.args.met.now in none_passed {A = Unit {0}} c.args.own.now Whatever w.number w.clock w.passes.items x x tt refl (same_met x) tt

pub returns-in-Some-clause-round : goal.returns-in-Some-clause-round
returns-in-Some-clause-round g c = let w = c.args.walker.now in let x = c.args.met.now in none_passed {A = Unit {0}} c.args.own.now Whatever w.number w.clock w.passes.items x x tt refl (same_met x) tt
