use Rattle.std.proofs.Common.{◌≡◌, ◌∙◌, ◌<◌, ◌-◌, ap, sym, subst, arith, take, get_or, vec_len, get_or-take}
use Rattle.std.proofs.lemmas.List.{take-take}
use mathlib.Core.Logic.{dite}
use native.Mathlib.Decide.{ℕ_discrete}
use Rattle.cluster_opening.specs.Houses.{CameBack}
use Rattle.cluster_opening.proofs.OneDisk.{came_back, still_back}
use Rattle.cluster_opening.proofs.disks_giving.give_back_all.Goals as goal
use Rattle.law_base.proofs.Options.{some_once as some_same}
use Rattle.io_model.specs.Sides.{sides_out, sides_told}

pub loop-gate-preserved : goal.loop-gate-preserved
loop-gate-preserved g c =
    let inv = c.loop-gate.invariant in
    let V = c.args.gates in
    let k = vec_len c.pop.new.self in
    let one : k ≡ vec_len c.loop-gate.gates - 1 = omega (arith, c.in-Some.ensures.cases) in
    let low : k < vec_len c.loop-gate.gates = omega (arith, c.in-Some.ensures.cases) in
    let few = inv.few in
    let here : c.len-shard.result ≡ k = c.len-shard.ensures in
    let back = c.give_sides.ensures in
    record {
      front = c.pop.ensures.rest ∙ ap (λ m. take m c.loop-gate.gates.items) (sym one) ∙ ap (take k) inv.front ∙ take-take k (vec_len c.loop-gate.gates) V.items (omega arith);
      few = omega arith;
      done = λ n d l h. dite (ℕ_discrete n k)
          (λ is. (let at = c.len-shard.result in
          let last = vec_len c.loop-gate.gates - 1 in
          let gate_is : c.in-Some.gate ≡ get_or V.items n d = some_same c.in-Some.gate (get_or c.loop-gate.gates.items last d) c.pop.result c.in-Some.is (c.pop.ensures.value d (omega arith))
          ∙ ap (λ z. get_or z last d) inv.front ∙ get_or-take (vec_len c.loop-gate.gates) V.items last d (omega arith) ∙ ap (λ m. get_or V.items m d) (sym one ∙ sym is) in
          subst (λ z. CameBack z (g.H.House.faults c.args.house.now n) (g.H.House.faults c.give_sides.new.house n) (sides_out (g.H.House.is_out c.give_sides.new.house) n) (sides_told (g.H.House.story c.give_sides.new.house) n)) gate_is
          (subst (λ m. CameBack c.in-Some.gate (g.H.House.faults c.args.house.now m) (g.H.House.faults c.give_sides.new.house m) (sides_out (g.H.House.is_out c.give_sides.new.house) m) (sides_told (g.H.House.story c.give_sides.new.house) m)) (here ∙ sym is)
          (came_back c.in-Some.gate _ _ _ _ _ _ back.adds c.into_sides.ensures.faults (inv.todo at (omega arith)).1 back.back (back.story ∙ c.into_sides.ensures.story)))))
          (λ other. (let t = back.others n (λ e. absurd (other (e ∙ here))) in still_back (get_or V.items n d) _ _ _ _ _ _ _ (inv.done n d (omega arith) h) t.0 t.1 t.2));
      todo = λ n l. (let t = back.others n (λ e. absurd (omega (arith, e, here))) in let w = inv.todo n (omega arith) in (t.1 ∙ w.0, t.0 ∙ w.1));
      others = λ n l. (let t = back.others n (λ e. absurd (omega (arith, e, here))) in let w = inv.others n l in (t.0 ∙ w.0, t.1 ∙ w.1, t.2 ∙ w.2));
    }
