use Rattle.std.proofs.Common.{refl, sym, ap, length}
use Rattle.std.specs.Prelude.{is_some}
use Rattle.std.proofs.lemmas.Bool.{both_ways}
use Rattle.session_ops.specs.Rounds.{OwnTried}
use Rattle.session_ops.proofs.Noting.{same_met, none_passed}
use Rattle.session_ops.proofs.rounds.move_home.Goals as goal

pub returns-then-is_some-clause-round : goal.returns-then-is_some-clause-round
returns-then-is_some-clause-round g c = let w = c.args.walker.now in let x = c.args.met.now in
    none_passed {A = Unit {0}} c.args.own.now (OwnTried c.args.home.now (length c.args.shards.now.locks.items)) w.number w.clock w.passes.items x x tt refl (same_met x) (λ n low is a. absurd (both_ways (is_some x.away) (ap is_some a) (sym c.if-is_some.ensures)))
