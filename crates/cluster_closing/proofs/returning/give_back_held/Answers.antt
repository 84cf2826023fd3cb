use Rattle.std.proofs.Common.{◌≡◌, ◌∙◌, ◌<◌, ◌-◌, ap, sym, subst, arith, take, get_or, vec_len, get_or-take, true}
use Rattle.std.proofs.lemmas.List.{take-take}
use mathlib.Core.Logic.{dite}
use native.Mathlib.Decide.{ℕ_discrete}
use Rattle.cluster_closing.specs.Ends.{shard_at}
use Rattle.cluster_closing.specs.Closing.{Returned}
use Rattle.cluster_closing.proofs.ComingBack.{still_returned}
use Rattle.cluster_closing.proofs.returning.give_back_held.Goals as goal
use Rattle.law_base.proofs.Options.{some_once as some_same}
use Rattle.io_model.specs.Sides.{sides_out, sides_told}
use Rattle.machine_calls.specs.Disks.{stories_of, faults_of}

pub give_sides-requires : goal.give_sides-requires
give_sides-requires g c =
    let inv = c.loop-held.invariant in let V = c.args.fetched in let k = vec_len c.pop.new.self in let few = inv.few in let x = c.in-Some.held in
    let one : k ≡ vec_len c.loop-held.fetched - 1 = omega (arith, c.in-Some.ensures.cases) in let low : k < vec_len c.loop-held.fetched = omega (arith, c.in-Some.ensures.cases) in
    let last = vec_len c.loop-held.fetched - 1 in let okV = V.ok in
    let is : x ≡ get_or V.items k x = some_same x (get_or c.loop-held.fetched.items last x) c.pop.result c.in-Some.is (c.pop.ensures.value x (omega arith))
    ∙ ap (λ z. get_or z last x) inv.front ∙ get_or-take (vec_len c.loop-held.fetched) V.items last x (omega arith) ∙ ap (λ m. get_or V.items m x) (sym one) in record {
      shard = subst (λ z. z.shard < 16) (sym is) (c.requires.few k x (omega arith));
      out = subst (λ z. sides_out (g.H.House.is_out c.loop-held.house) z.shard ≡ (true, true)) (sym is) (inv.todo k x (omega arith)).0;
    }

pub loop-held-preserved : goal.loop-held-preserved
loop-held-preserved g c =
    let inv = c.loop-held.invariant in let V = c.args.fetched in let k = vec_len c.pop.new.self in let few = inv.few in let x = c.in-Some.held in
    let one : k ≡ vec_len c.loop-held.fetched - 1 = omega (arith, c.in-Some.ensures.cases) in let low : k < vec_len c.loop-held.fetched = omega (arith, c.in-Some.ensures.cases) in
    let last = vec_len c.loop-held.fetched - 1 in let okV = V.ok in let back = c.give_sides.ensures in
    let is : (f : _) → x ≡ get_or V.items k f = λ f. some_same x (get_or c.loop-held.fetched.items last f) c.pop.result c.in-Some.is (c.pop.ensures.value f (omega arith))
    ∙ ap (λ z. get_or z last f) inv.front ∙ get_or-take (vec_len c.loop-held.fetched) V.items last f (omega arith) ∙ ap (λ m. get_or V.items m f) (sym one) in record {
      front = c.pop.ensures.rest ∙ ap (λ m. take m c.loop-held.fetched.items) (sym one) ∙ ap (take k) inv.front ∙ take-take k (vec_len c.loop-held.fetched) V.items (omega arith);
      few = omega arith;
      done = λ j f l h. dite (ℕ_discrete j k)
          (λ here. subst (λ z. Returned (stories_of g.H.Disk.Disk.story) (faults_of g.H.Disk.Disk.faults) z.disk (g.H.House.faults c.args.house.now z.shard) (g.H.House.faults c.give_sides.new.house z.shard) (sides_out (g.H.House.is_out c.give_sides.new.house) z.shard) (sides_told (g.H.House.story c.give_sides.new.house) z.shard))
          (is f ∙ ap (λ m. get_or V.items m f) (sym here))
          (record {
            adds = subst (λ m. Rattle.io_model.specs.Disk.Adds m (faults_of g.H.Disk.Disk.faults x.disk) (g.H.House.faults c.give_sides.new.house x.shard)) (subst (λ z. g.H.House.faults c.loop-held.house z.shard ≡ g.H.House.faults c.args.house.now z.shard) (sym (is x)) (inv.todo k x (omega arith)).1) back.adds;
            is_in = back.back;
            story_is = back.story;
          }))
          (λ other. (let t = back.others (shard_at V.items j f) (λ e. c.requires.apart k j f (omega arith) (omega arith) (sym (e ∙ ap (λ z. z.shard) (is f)))) in
          still_returned (get_or V.items j f).disk _ _ _ _ _ _ _ (inv.done j f (omega arith) h) t.0 t.1 t.2));
      todo = λ j f l. (let t = back.others (shard_at V.items j f) (λ e. c.requires.apart j k f (omega arith) (omega arith) (e ∙ ap (λ z. z.shard) (is f))) in let w = inv.todo j f (omega arith) in (t.1 ∙ w.0, t.0 ∙ w.1));
      others = λ n none. (let t = back.others n (λ e. none k x (omega arith) (sym (ap (λ z. z.shard) (is x)) ∙ sym e)) in let w = inv.others n none in (t.0 ∙ w.0, t.1 ∙ w.1, t.2 ∙ w.2));
    }
