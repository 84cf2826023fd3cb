use Rattle.std.proofs.Common.{◌≡◌, ◌∙◌, ◌<◌, ◌-◌, ◌+◌, ap, sym, subst, arith, take, get_or, vec_len, get_or-take}
use Rattle.std.proofs.lemmas.List.{take-take}
use mathlib.Core.Logic.{dite}
use native.Mathlib.Decide.{ℕ_discrete}
use Rattle.cluster_opening.specs.Undone.{CameBack}
use Rattle.cluster_opening.proofs.Back.{came_back, still_back, none_case}
use Rattle.cluster_opening.proofs.giving.give_back_above.Goals as goal
use Rattle.law_base.proofs.Options.{some_once as some_same}
use Rattle.io_model.specs.Sides.{sides_out, sides_told}

pub loop-gate-preserved : goal.loop-gate-preserved
loop-gate-preserved g c =
    let inv = c.loop-gate.invariant in let V = c.args.rest in let k = vec_len c.pop.new.self in
    let one : k ≡ vec_len c.loop-gate.rest - 1 = omega (arith, c.in-Some.ensures.cases) in let low : k < vec_len c.loop-gate.rest = omega (arith, c.in-Some.ensures.cases) in
    let few = inv.few in let la = c.len.ensures in let lb = c.len-in-Some.ensures in let back = c.give_sides.ensures in
    let at = c.args.first + c.len.result - 1 - c.len-in-Some.result in record {
      front = c.pop.ensures.rest ∙ ap (λ m. take m c.loop-gate.rest.items) (sym one) ∙ ap (take k) inv.front ∙ take-take k (vec_len c.loop-gate.rest) V.items (omega arith);
      few = omega arith;
      done = λ n j d h l m. dite (ℕ_discrete j k)
          (λ is. (let last = vec_len c.loop-gate.rest - 1 in
          let gate_is : c.in-Some.gate ≡ get_or V.items j d = some_same c.in-Some.gate (get_or c.loop-gate.rest.items last d) c.pop.result c.in-Some.is (c.pop.ensures.value d (omega arith))
          ∙ ap (λ z. get_or z last d) inv.front ∙ get_or-take (vec_len c.loop-gate.rest) V.items last d (omega arith) ∙ ap (λ m. get_or V.items m d) (sym one ∙ sym is) in
          let there : at ≡ n = omega arith in
          subst (λ z. CameBack g.M.OverDisks.story g.M.Gate.Gate.faults z (g.H.House.faults c.args.house.now n) (g.H.House.faults c.give_sides.new.house n) (sides_out (g.H.House.is_out c.give_sides.new.house) n) (sides_told (g.H.House.story c.give_sides.new.house) n)) gate_is
          (subst (λ m. CameBack g.M.OverDisks.story g.M.Gate.Gate.faults c.in-Some.gate (g.H.House.faults c.args.house.now m) (g.H.House.faults c.give_sides.new.house m) (sides_out (g.H.House.is_out c.give_sides.new.house) m) (sides_told (g.H.House.story c.give_sides.new.house) m)) there
          (came_back g.M.OverDisks.story g.M.Gate.Gate.faults c.in-Some.gate _ _ _ _ _ _ back.adds c.sides_under.ensures.faults (inv.todo at (omega arith) (omega arith)).1 back.back (back.story ∙ c.sides_under.ensures.story)))))
          (λ other. (let t = back.others n (λ e. absurd (omega (arith, e, other))) in still_back g.M.OverDisks.story g.M.Gate.Gate.faults (get_or V.items j d) _ _ _ _ _ _ _ (inv.done n j d h (omega arith) m) t.0 t.1 t.2));
      todo = λ n a b. (let t = back.others n (λ e. absurd (omega (arith, e))) in let w = inv.todo n (omega arith) b in (t.1 ∙ w.0, t.0 ∙ w.1));
      below = λ n l. (let t = back.others n (λ e. absurd (omega (arith, e))) in let w = inv.below n l in (t.0 ∙ w.0, t.1 ∙ w.1, t.2 ∙ w.2));
      above = λ n l. (let t = back.others n (λ e. absurd (omega (arith, e))) in let w = inv.above n l in (t.0 ∙ w.0, t.1 ∙ w.1, t.2 ∙ w.2));
    }

pub returns-clause-back : goal.returns-clause-back
returns-clause-back g c = let inv = c.loop-gate.invariant in let none = none_case c.pop.result _ _ c.in_default.is c.pop.ensures.cases in let zero = none.0 in let many = c.len.ensures in let ok = c.args.rest.ok in
    λ n j d a b. inv.done n j d (omega arith) (omega arith) b
