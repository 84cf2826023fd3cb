use Rattle.std.proofs.Common.{arith, ◌≡◌, ◌∙◌, ◌+◌, ◌-◌, ℕ, suc, Ok, refl, length, get_or, vec_len, sym, ap, subst, length-take}
use Rattle.std.proofs.lemmas.List.{get_or-take}
use Rattle.cluster_opening.specs.Made.{IsNewWalker}
use Rattle.session_api.proofs.Laws.{new_walkers_are_sessions}
use Rattle.session_api.specs.Standing.{HoldsSaves}
use Rattle.live_runs.specs.Walked.{IsPlaced}
use Rattle.live_runs.proofs.Placing.{new_up, pushed_each}
use Rattle.live_runs.proofs.sessions.take_places.Goals as goal
use Rattle.law_base.proofs.Options.{value_or as the}

pub new-requires : goal.new-requires
new-requires g c =
    let inv = c.loop.invariant in let low = c.loop-test.true in let i = c.loop.counter in let hw = inv.walkers in let w = c.unwrap-walker.result in let few = c.requires.few in
    let m = c.args.sessions - 1 - i in
    let is = ap (the w) (sym c.unwrap-walker.ensures ∙ c.pop.ensures.value w (omega arith)) ∙ (inv.same (vec_len c.loop.walkers - 1) w (omega arith) ∙ ap (λ x. get_or c.args.walkers.now.items x w) (omega arith)) in
    record { session = new_walkers_are_sessions _ _ _ c.args.shards.now (suc m) c.args.clock (record w { clock = c.args.clock }) (new_up c.args.shards.now (suc m) c.args.clock w (subst (λ z. IsNewWalker c.args.shards.now (suc m) 0 z) (sym is) (c.requires.new m w (omega arith)))) c.requires.splits (omega arith) (omega arith) }

pub loop-preserved : goal.loop-preserved
loop-preserved g c =
    let inv = c.loop.invariant in let low = c.loop-test.true in let i = c.loop.counter in
    let hw = inv.walkers in let hs = inv.places in let hwide = inv.wide in let count = c.requires.count in
    let okW = c.loop.walkers.ok in let okW2 = c.pop.new.self.ok in let okS = c.loop.places.ok in
    let fewer = ap length c.pop.ensures.rest in let most = length-take (vec_len c.loop.walkers - 1) c.loop.walkers.items in
    let pl = c.push_reserved.ensures.len in let pc = c.push_reserved.ensures.capacity in let cap = c.pop.ensures.capacity in
    record {
      walkers = omega arith;
      wide_walkers = cap ∙ inv.wide_walkers;
      same = λ j d l. ap (λ z. get_or z j d) c.pop.ensures.rest ∙ (get_or-take (vec_len c.loop.walkers - 1) c.loop.walkers.items j d (omega arith) ∙ inv.same j d (omega arith));
      places = omega arith;
      wide = omega arith;
      placed = λ j d l. subst (λ z. (k : ℕ) → j + suc k ≡ c.args.sessions → IsPlaced c.args.shards.now c.args.clock k (get_or z j d).session.session.shards.now (get_or z j d).session.session.walker (get_or z j d).session.session.progress (get_or z j d).session.session.saves.items (get_or z j d).session.saves) (sym c.push_reserved.ensures.items)
          (pushed_each (λ a z. (k : ℕ) → a + suc k ≡ c.args.sessions → IsPlaced c.args.shards.now c.args.clock k z.session.session.shards.now z.session.session.walker z.session.session.progress z.session.session.saves.items z.session.saves) c.loop.places.items _ i (omega arith) inv.placed
          (λ k at. (let w = c.unwrap-walker.result in
          let is = ap (the w) (sym c.unwrap-walker.ensures ∙ c.pop.ensures.value w (omega arith)) ∙ (inv.same (vec_len c.loop.walkers - 1) w (omega arith) ∙ ap (λ x. get_or c.args.walkers.now.items x w) (omega arith)) in record {
            on = c.new.ensures.shards;
            new = subst (λ z. IsNewWalker c.args.shards.now (suc k) c.args.clock z) (sym c.new.ensures.begins.0) (new_up c.args.shards.now (suc k) c.args.clock w (subst (λ z. IsNewWalker c.args.shards.now (suc k) 0 z) (sym is) (c.requires.new k w (omega arith))));
            none_begun = c.new.ensures.begins.1;
            holds = subst (λ z. HoldsSaves z c.new.result.session.walker c.new.result.session.progress c.new.result.session.saves.items c.new.result.saves) c.new.ensures.shards c.new.ensures.session;
          })) j d l);
      fine = λ j d l. subst (λ z. (get_or z j d).ended ≡ Ok (tt {0})) (sym c.push_reserved.ensures.items)
          (pushed_each (λ a z. z.ended ≡ Ok (tt {0})) c.loop.places.items _ i (omega arith) inv.fine refl j d l);
    }

pub returns-clause-placed : goal.returns-clause-placed
returns-clause-placed g c =
    let inv = c.loop.invariant in let out = c.loop-test.false in let hs = inv.places in
    λ k d l. subst (λ z. IsPlaced c.args.shards.now c.args.clock k z.session.session.shards.now z.session.session.walker z.session.session.progress z.session.session.saves.items z.session.saves) (sym (c.reverse.ensures.by_index k d (omega arith)))
    (inv.placed (vec_len c.loop.places - 1 - k) d (omega arith) k (omega arith))

pub returns-clause-fine : goal.returns-clause-fine
returns-clause-fine g c =
    let inv = c.loop.invariant in let out = c.loop-test.false in let hs = inv.places in
    λ k d l. subst (λ z. z.ended ≡ Ok (tt {0})) (sym (c.reverse.ensures.by_index k d (omega arith))) (inv.fine (vec_len c.loop.places - 1 - k) d (omega arith))
