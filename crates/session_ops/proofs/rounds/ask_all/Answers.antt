use Rattle.std.proofs.Common.{◌∙◌, Ok, refl}
use Rattle.session_ops.specs.Rounds.{Whatever}
use Rattle.session_ops.proofs.Noting.{same_met, none_passed, passes_on, passes_to_error}
use Rattle.session_ops.proofs.rounds.ask_all.Goals as goal

pub loop-shard-init : goal.loop-shard-init
loop-shard-init g c = let w = c.args.walker.now in let x = c.args.met.now in (c.requires.walker, (refl, refl), none_passed {A = Unit {0}} c.args.own.now Whatever w.number w.clock w.passes.items x x tt refl (same_met x) tt)

pub returns-in-Err-clause-round : goal.returns-in-Err-clause-round
returns-in-Err-clause-round g c = let w = c.args.walker.now in let u = c.loop-shard.walker in let v = c.remind.new.walker in let i = c.loop-shard.invariant in
    passes_to_error {A = Unit {0}} {B = Unit {0}} c.args.own.now Whatever Whatever Whatever w.number u.number w.clock u.clock v.clock w.passes.items u.passes.items v.passes.items c.args.met.now c.loop-shard.met c.remind.new.met tt c.in-Err.error i.1.0 i.2 c.in-Err.ensures.reminded

pub loop-shard-preserved : goal.loop-shard-preserved
loop-shard-preserved g c = let w = c.args.walker.now in let u = c.loop-shard.walker in let v = c.remind.new.walker in let i = c.loop-shard.invariant in let e = c.in-Ok.ensures in (
  e.walker.0,
  (e.walker.1.0 ∙ i.1.0, e.walker.1.1 ∙ i.1.1),
  passes_on {A = Unit {0}} {B = Unit {0}} c.args.own.now Whatever Whatever Whatever w.number u.number w.clock u.clock v.clock w.passes.items u.passes.items v.passes.items c.args.met.now c.loop-shard.met c.remind.new.met tt (Ok tt) (λ xs ys l p k. tt) i.1.0 i.2 e.reminded,
)
