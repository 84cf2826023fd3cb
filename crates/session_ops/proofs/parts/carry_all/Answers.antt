use Rattle.std.proofs.Common.{◌∙◌, Bool, Ok, Err, refl, subst}
use Rattle.session_ops.specs.Rounds.{CarriedOn, CarriedAs, Whatever}
use Rattle.session_ops.proofs.Rounding.{same_error}
use Rattle.session_ops.proofs.Noting.{same_met, none_passed, passes_on, passes_to_error, passed_as, same_own, carried_after}
use Rattle.session_ops.proofs.parts.carry_all.Goals as goal

pub loop-init : goal.loop-init
loop-init g c = let w = c.args.walker.now in let x = c.args.met.now in (c.requires.walker, (refl, refl), none_passed {A = Unit {0}} c.args.own.now Whatever w.number w.clock w.passes.items x x tt refl (same_met x) tt)

pub returns-in-Ok-true-clause-carried : goal.returns-in-Ok-true-clause-carried
returns-in-Ok-true-clause-carried g c = let w = c.args.walker.now in let u = c.loop.walker in let v = c.carry.new.walker in let i = c.loop.invariant in let own = c.args.own.now in let n = c.args.shard in let t = c.in-Ok-true in
    passes_on {A = Unit {0}} {B = Unit {0}} own Whatever (CarriedOn n) (CarriedOn n) w.number u.number w.clock u.clock v.clock w.passes.items u.passes.items v.passes.items c.args.met.now c.loop.met c.carry.new.met tt (Ok tt) (λ xs ys l p k. carried_after n xs ys k) i.1.0 i.2
    (passed_as {A = Bool} {B = Unit {0}} own (CarriedAs n (Ok t.field-0)) (CarriedOn n) u.number u.clock v.clock u.passes.items v.passes.items c.loop.met c.carry.new.met (Ok t.field-0) (Ok tt) (λ ts h. tt) (λ h. tt)
    (λ ts k. subst (λ b. CarriedAs n (Ok b) c.carry.new.met ts) t.field-0-test k) t.ensures.carried)

pub loop-preserved : goal.loop-preserved
loop-preserved g c = let w = c.args.walker.now in let u = c.loop.walker in let v = c.carry.new.walker in let i = c.loop.invariant in let own = c.args.own.now in let n = c.args.shard in let t = c.in-Ok-false in let e = t.ensures in (
  e.walker.0,
  (e.walker.1.0 ∙ i.1.0, e.walker.1.1 ∙ i.1.1),
  passes_on {A = Unit {0}} {B = Unit {0}} own Whatever Whatever Whatever w.number u.number w.clock u.clock v.clock w.passes.items u.passes.items v.passes.items c.args.met.now c.loop.met c.carry.new.met tt (Ok tt) (λ xs ys l p k. tt) i.1.0 i.2
      (passed_as {A = Bool} {B = Unit {0}} own (CarriedAs n (Ok t.field-0)) Whatever u.number u.clock v.clock u.passes.items v.passes.items c.loop.met c.carry.new.met (Ok t.field-0) (Ok tt) (λ ts h. tt) (λ h. tt) (λ ts k. tt) e.carried),
)

pub returns-in-Err-clause-carried : goal.returns-in-Err-clause-carried
returns-in-Err-clause-carried g c = let w = c.args.walker.now in let u = c.loop.walker in let v = c.carry.new.walker in let i = c.loop.invariant in let x = c.in-Err.error in let own = c.args.own.now in let n = c.args.shard in
    passes_to_error {A = Unit {0}} {B = Unit {0}} own Whatever (CarriedOn n) (CarriedOn n) w.number u.number w.clock u.clock v.clock w.passes.items u.passes.items v.passes.items c.args.met.now c.loop.met c.carry.new.met tt x i.1.0 i.2
    (passed_as {A = Bool} {B = Unit {0}} own (CarriedAs n (Err x)) (CarriedOn n) u.number u.clock v.clock u.passes.items v.passes.items c.loop.met c.carry.new.met (Err x) (Err x) (λ ts h. same_error Bool (Unit {0}) x ts h) (λ h. same_own Bool (Unit {0}) own x h) (λ ts k. tt)
    c.in-Err.ensures.carried)
