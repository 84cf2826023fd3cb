use Rattle.std.proofs.Common.{◌≡◌, ◌∙◌, ◌<◌, ◌-◌, false, ap, sym, subst, arith, take, get_or, vec_len, get_or-take, length-take, length}
use Rattle.std.proofs.lemmas.List.{take-take}
use mathlib.Core.Logic.{dite}
use native.Mathlib.Decide.{ℕ_discrete}
use Rattle.clv_base.specs.LogRules.{log_of}
use Rattle.machine_calls.specs.Recovered.{IsLeft}
use Rattle.cluster_opening.proofs.Back.{opened_at, none_case}
use Rattle.cluster_opening.proofs.giving.give_back_locks.Goals as goal
use Rattle.law_base.proofs.Options.{some_once as some_same}
use Rattle.io_model.specs.Sides.{sides_out, sides_told}

pub close_unused-requires-clause-some : goal.close_unused-requires-clause-some
close_unused-requires-clause-some g c =
    let inv = c.loop-lock.invariant in let V = c.args.locks in let W = c.args.passes in let okV = V.ok in let okW = W.ok in let k = vec_len c.pop.new.self in
    let one : k ≡ vec_len c.loop-lock.locks - 1 = omega (arith, c.in-Some.ensures.cases) in let low : k < vec_len c.loop-lock.locks = omega (arith, c.in-Some.ensures.cases) in
    let few = inv.few in let ip = inv.passes in let lens = c.requires.len in let last = vec_len c.loop-lock.locks - 1 in let last2 = vec_len c.loop-lock.passes - 1 in let same : last2 ≡ k = omega arith in
    let x = c.in-Some.lock in let y = c.unwrap-mine.result in let okY = y.ok in
    let lock_is : x ≡ get_or V.items k x = some_same x (get_or c.loop-lock.locks.items last x) c.pop.result c.in-Some.is (c.pop.ensures.value x (omega arith))
    ∙ ap (λ z. get_or z last x) inv.front ∙ get_or-take (vec_len c.loop-lock.locks) V.items last x (omega arith) ∙ ap (λ m. get_or V.items m x) (sym one) in
    let mine_is : y ≡ get_or W.items k y = some_same y (get_or c.loop-lock.passes.items last2 y) c.pop-in-Some.result c.unwrap-mine.ensures (c.pop-in-Some.ensures.value y (omega arith))
    ∙ ap (λ z. get_or z last2 y) inv.front_too ∙ get_or-take (vec_len c.loop-lock.locks) W.items last2 y (omega arith) ∙ ap (λ m. get_or W.items m y) same in
    let r = c.requires.opened in let at = opened_at r.0 r.1 r.2 r.3 V.items W.items r.5 k x y (omega arith) lock_is mine_is in
    (let a = at.all in let pos = r.4 in omega arith)

pub close_unused-requires-clause-all : goal.close_unused-requires-clause-all
close_unused-requires-clause-all g c =
    let inv = c.loop-lock.invariant in let V = c.args.locks in let W = c.args.passes in let okV = V.ok in let okW = W.ok in let k = vec_len c.pop.new.self in
    let one : k ≡ vec_len c.loop-lock.locks - 1 = omega (arith, c.in-Some.ensures.cases) in let low : k < vec_len c.loop-lock.locks = omega (arith, c.in-Some.ensures.cases) in
    let few = inv.few in let ip = inv.passes in let lens = c.requires.len in let last = vec_len c.loop-lock.locks - 1 in let last2 = vec_len c.loop-lock.passes - 1 in let same : last2 ≡ k = omega arith in
    let x = c.in-Some.lock in let y = c.unwrap-mine.result in let okY = y.ok in
    let lock_is : x ≡ get_or V.items k x = some_same x (get_or c.loop-lock.locks.items last x) c.pop.result c.in-Some.is (c.pop.ensures.value x (omega arith))
    ∙ ap (λ z. get_or z last x) inv.front ∙ get_or-take (vec_len c.loop-lock.locks) V.items last x (omega arith) ∙ ap (λ m. get_or V.items m x) (sym one) in
    let mine_is : y ≡ get_or W.items k y = some_same y (get_or c.loop-lock.passes.items last2 y) c.pop-in-Some.result c.unwrap-mine.ensures (c.pop-in-Some.ensures.value y (omega arith))
    ∙ ap (λ z. get_or z last2 y) inv.front_too ∙ get_or-take (vec_len c.loop-lock.locks) W.items last2 y (omega arith) ∙ ap (λ m. get_or W.items m y) same in
    let r = c.requires.opened in let at = opened_at r.0 r.1 r.2 r.3 V.items W.items r.5 k x y (omega arith) lock_is mine_is in
    (let a = at.all in let m = at.many in omega arith)

pub close_unused-requires-clause-unused : goal.close_unused-requires-clause-unused
close_unused-requires-clause-unused g c =
    let inv = c.loop-lock.invariant in let V = c.args.locks in let W = c.args.passes in let okV = V.ok in let okW = W.ok in let k = vec_len c.pop.new.self in
    let one : k ≡ vec_len c.loop-lock.locks - 1 = omega (arith, c.in-Some.ensures.cases) in let low : k < vec_len c.loop-lock.locks = omega (arith, c.in-Some.ensures.cases) in
    let few = inv.few in let ip = inv.passes in let lens = c.requires.len in let last = vec_len c.loop-lock.locks - 1 in let last2 = vec_len c.loop-lock.passes - 1 in let same : last2 ≡ k = omega arith in
    let x = c.in-Some.lock in let y = c.unwrap-mine.result in let okY = y.ok in
    let lock_is : x ≡ get_or V.items k x = some_same x (get_or c.loop-lock.locks.items last x) c.pop.result c.in-Some.is (c.pop.ensures.value x (omega arith))
    ∙ ap (λ z. get_or z last x) inv.front ∙ get_or-take (vec_len c.loop-lock.locks) V.items last x (omega arith) ∙ ap (λ m. get_or V.items m x) (sym one) in
    let mine_is : y ≡ get_or W.items k y = some_same y (get_or c.loop-lock.passes.items last2 y) c.pop-in-Some.result c.unwrap-mine.ensures (c.pop-in-Some.ensures.value y (omega arith))
    ∙ ap (λ z. get_or z last2 y) inv.front_too ∙ get_or-take (vec_len c.loop-lock.locks) W.items last2 y (omega arith) ∙ ap (λ m. get_or W.items m y) same in
    let r = c.requires.opened in let at = opened_at r.0 r.1 r.2 r.3 V.items W.items r.5 k x y (omega arith) lock_is mine_is in
    (at.origin, λ j d l. at.new j d (let a = at.all in omega arith))

pub loop-lock-preserved : goal.loop-lock-preserved
loop-lock-preserved g c =
    let inv = c.loop-lock.invariant in let V = c.args.locks in let W = c.args.passes in let okV = V.ok in let okW = W.ok in let k = vec_len c.pop.new.self in
    let one : k ≡ vec_len c.loop-lock.locks - 1 = omega (arith, c.in-Some.ensures.cases) in let low : k < vec_len c.loop-lock.locks = omega (arith, c.in-Some.ensures.cases) in
    let few = inv.few in let ip = inv.passes in let lens = c.requires.len in let last = vec_len c.loop-lock.locks - 1 in let last2 = vec_len c.loop-lock.passes - 1 in let same : last2 ≡ k = omega arith in
    let x = c.in-Some.lock in let y = c.unwrap-mine.result in let okY = y.ok in
    let lock_is : x ≡ get_or V.items k x = some_same x (get_or c.loop-lock.locks.items last x) c.pop.result c.in-Some.is (c.pop.ensures.value x (omega arith))
    ∙ ap (λ z. get_or z last x) inv.front ∙ get_or-take (vec_len c.loop-lock.locks) V.items last x (omega arith) ∙ ap (λ m. get_or V.items m x) (sym one) in
    let mine_is : y ≡ get_or W.items k y = some_same y (get_or c.loop-lock.passes.items last2 y) c.pop-in-Some.result c.unwrap-mine.ensures (c.pop-in-Some.ensures.value y (omega arith))
    ∙ ap (λ z. get_or z last2 y) inv.front_too ∙ get_or-take (vec_len c.loop-lock.locks) W.items last2 y (omega arith) ∙ ap (λ m. get_or W.items m y) same in
    let fewer = ap length c.pop-in-Some.ensures.rest in let most = length-take last2 c.loop-lock.passes.items in let okP = c.loop-lock.passes.ok in let okP2 = c.pop-in-Some.new.self.ok in
    let here : c.len-shard.result ≡ k = c.len-shard.ensures in let n0 = c.len-shard.result in let back = c.give_sides.ensures in record {
      front = c.pop.ensures.rest ∙ ap (λ m. take m c.loop-lock.locks.items) (sym one) ∙ ap (take k) inv.front ∙ take-take k (vec_len c.loop-lock.locks) V.items (omega arith);
      few = omega arith;
      passes = omega arith;
      front_too = c.pop-in-Some.ensures.rest ∙ ap (λ m. take m c.loop-lock.passes.items) same ∙ ap (take k) inv.front_too ∙ take-take k (vec_len c.loop-lock.locks) W.items (omega arith);
      done = λ n l h. dite (ℕ_discrete n k)
          (λ is. subst (λ m. (g.H.House.faults c.give_sides.new.house m ≡ g.H.House.faults c.args.house.now m) × (sides_out (g.H.House.is_out c.give_sides.new.house) m ≡ (false, false))) (here ∙ sym is)
          (back.adds.none c.close_unused.ensures.fine ∙ (inv.todo n0 (omega arith)).1, back.back))
          (λ other. (let t = back.others n (λ e. absurd (other (e ∙ here))) in let w = inv.done n (omega arith) h in (t.0 ∙ w.0, t.1 ∙ w.1)));
      left = λ layout run walkers logs all n before l h. dite (ℕ_discrete n k)
          (λ is. (let q = opened_at layout run walkers logs V.items W.items all k x y (omega arith) lock_is mine_is in
          subst (λ m. IsLeft m layout (log_of logs m) run before (sides_told (g.H.House.story c.give_sides.new.house) m)) (sym is)
          (subst (λ m. IsLeft k layout (log_of logs k) run before (sides_told (g.H.House.story c.give_sides.new.house) m)) here
          (subst (λ z. IsLeft k layout (log_of logs k) run before z) (sym back.story)
          (c.close_unused.ensures.left q.origin k layout run (log_of logs k) before (λ j d i. q.new j d (let a = q.all in omega arith)) q.origin_is)))))
          (λ other. subst (λ z. IsLeft n layout (log_of logs n) run before z) (sym (back.others n (λ e. absurd (other (e ∙ here)))).2) (inv.left layout run walkers logs all n before (omega arith) h));
      todo = λ n l. (let t = back.others n (λ e. absurd (omega (arith, e, here))) in let w = inv.todo n (omega arith) in (t.1 ∙ w.0, t.0 ∙ w.1));
      others = λ n l. (let t = back.others n (λ e. absurd (omega (arith, e, here))) in let w = inv.others n l in (t.0 ∙ w.0, t.1 ∙ w.1, t.2 ∙ w.2));
    }

pub returns-clause-left : goal.returns-clause-left
returns-clause-left g c = let inv = c.loop-lock.invariant in let none = none_case c.pop.result _ _ c.in_default.is c.pop.ensures.cases in let zero = none.0 in
    λ layout run walkers logs all n before l. inv.left layout run walkers logs all n before (omega arith) l
