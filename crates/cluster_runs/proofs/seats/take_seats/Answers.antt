use Rattle.std.proofs.Common.{arith, ◌≡◌, ◌∙◌, ◌+◌, ◌-◌, ℕ, suc, length, get_or, vec_len, sym, ap, subst, length-take}
use Rattle.std.proofs.lemmas.List.{get_or-take}
use Rattle.cluster_opening.specs.Made.{IsNewWalker}
use Rattle.session_api.proofs.Laws.{new_walkers_are_sessions}
use Rattle.session_api.specs.Standing.{HoldsSaves}
use Rattle.cluster_runs.specs.Sessions.{IsSeated}
use Rattle.cluster_runs.specs.Books.{IsBlank}
use Rattle.cluster_runs.proofs.Drained.{new_up}
use Rattle.cluster_runs.proofs.Steps.{pushed_each, bodies_at}
use Rattle.cluster_runs.proofs.seats.take_seats.Goals as goal
use Rattle.law_base.proofs.Options.{value_or as the}

pub new-requires : goal.new-requires
new-requires g c =
    let inv = c.loop-taken.invariant in let low = c.loop-taken-test.true in let i = c.loop-taken.taken in let hw = inv.walkers in let w = c.unwrap-walker.result in let few = c.requires.few in
    let m = length c.args.plan.sessions.now - 1 - i in
    let is = ap (the w) (sym c.unwrap-walker.ensures ∙ c.pop.ensures.value w (omega arith)) ∙ (inv.same (vec_len c.loop-taken.walkers - 1) w (omega arith) ∙ ap (λ x. get_or c.args.walkers.now.items x w) (omega arith)) in
    record { session = new_walkers_are_sessions _ _ _ c.args.shards.now (suc m) c.args.clock (record w { clock = c.args.clock }) (new_up c.args.shards.now (suc m) c.args.clock w (subst (λ z. IsNewWalker c.args.shards.now (suc m) 0 z) (sym is) (c.requires.new m w (omega arith)))) c.requires.splits (omega arith) (omega arith) }

pub loop-taken-preserved : goal.loop-taken-preserved
loop-taken-preserved g c =
    let inv = c.loop-taken.invariant in let low = c.loop-taken-test.true in let i = c.loop-taken.taken in
    let hw = inv.walkers in let hs = inv.seats in let hwide = inv.wide in let count = c.requires.count in
    let okW = c.loop-taken.walkers.ok in let okW2 = c.pop.new.self.ok in let okS = c.loop-taken.seats.ok in
    let fewer = ap length c.pop.ensures.rest in let most = length-take (vec_len c.loop-taken.walkers - 1) c.loop-taken.walkers.items in
    let pl = c.push_reserved.ensures.len in let pc = c.push_reserved.ensures.capacity in let cap = c.pop.ensures.capacity in
    record {
      walkers = omega arith;
      wide_walkers = cap ∙ inv.wide_walkers;
      same = λ j d l. ap (λ z. get_or z j d) c.pop.ensures.rest ∙ (get_or-take (vec_len c.loop-taken.walkers - 1) c.loop-taken.walkers.items j d (omega arith) ∙ inv.same j d (omega arith));
      seats = omega arith;
      wide = omega arith;
      seated = λ j d l. subst (λ z. (k : ℕ) → j + suc k ≡ length c.args.plan.sessions.now → IsSeated c.args.shards.now c.args.clock c.args.plan.sessions.now k (get_or z j d).session.session.shards.now (get_or z j d).session.session.walker (get_or z j d).session.session.progress (get_or z j d).session.session.saves.items (get_or z j d).session.saves (get_or z j d).transactions.now) (sym c.push_reserved.ensures.items)
          (pushed_each (λ a z. (k : ℕ) → a + suc k ≡ length c.args.plan.sessions.now → IsSeated c.args.shards.now c.args.clock c.args.plan.sessions.now k z.session.session.shards.now z.session.session.walker z.session.session.progress z.session.session.saves.items z.session.saves z.transactions.now) c.loop-taken.seats.items _ i (omega arith) inv.seated
          (λ k at. (let w = c.unwrap-walker.result in
          let is = ap (the w) (sym c.unwrap-walker.ensures ∙ c.pop.ensures.value w (omega arith)) ∙ (inv.same (vec_len c.loop-taken.walkers - 1) w (omega arith) ∙ ap (λ x. get_or c.args.walkers.now.items x w) (omega arith)) in record {
            on = c.new.ensures.shards;
            new = subst (λ z. IsNewWalker c.args.shards.now (suc k) c.args.clock z) (sym c.new.ensures.begins.0) (new_up c.args.shards.now (suc k) c.args.clock w (subst (λ z. IsNewWalker c.args.shards.now (suc k) 0 z) (sym is) (c.requires.new k w (omega arith))));
            none_begun = c.new.ensures.begins.1;
            holds = subst (λ z. HoldsSaves z c.new.result.session.walker c.new.result.session.progress c.new.result.session.saves.items c.new.result.saves) c.new.ensures.shards c.new.ensures.session;
            bodies = λ b has. c.transactions.ensures ∙ (c.index-sessions-place.is ∙ (ap (λ x. get_or c.args.plan.sessions.now x c.index-sessions-place.result) (omega arith) ∙ bodies_at c.args.plan.sessions.now k b c.index-sessions-place.result has));
          })) j d l);
      blank = λ j d l. subst (λ z. IsBlank (get_or z j d).book) (sym c.push_reserved.ensures.items)
          (pushed_each (λ a z. IsBlank z.book) c.loop-taken.seats.items _ i (omega arith) inv.blank c.blank_book-book.ensures.blank j d l);
      keeps = λ j d l. subst (λ z. (get_or z j d).book.keeps ≡ c.args.plan.keeps_rows) (sym c.push_reserved.ensures.items)
          (pushed_each (λ a z. z.book.keeps ≡ c.args.plan.keeps_rows) c.loop-taken.seats.items _ i (omega arith) inv.keeps c.blank_book-book.ensures.keeps j d l);
    }

pub returns-clause-seated : goal.returns-clause-seated
returns-clause-seated g c =
    let inv = c.loop-taken.invariant in let out = c.loop-taken-test.false in let hs = inv.seats in
    λ k d l. subst (λ z. IsSeated c.args.shards.now c.args.clock c.args.plan.sessions.now k z.session.session.shards.now z.session.session.walker z.session.session.progress z.session.session.saves.items z.session.saves z.transactions.now) (sym (c.reverse.ensures.by_index k d (omega arith)))
    (inv.seated (vec_len c.loop-taken.seats - 1 - k) d (omega arith) k (omega arith))

pub returns-clause-blank : goal.returns-clause-blank
returns-clause-blank g c =
    let inv = c.loop-taken.invariant in let out = c.loop-taken-test.false in let hs = inv.seats in
    λ k d l. subst (λ z. IsBlank z.book) (sym (c.reverse.ensures.by_index k d (omega arith))) (inv.blank (vec_len c.loop-taken.seats - 1 - k) d (omega arith))

pub returns-clause-keeps : goal.returns-clause-keeps
returns-clause-keeps g c =
    let inv = c.loop-taken.invariant in let out = c.loop-taken-test.false in let hs = inv.seats in
    λ k d l. subst (λ z. z.book.keeps ≡ c.args.plan.keeps_rows) (sym (c.reverse.ensures.by_index k d (omega arith))) (inv.keeps (vec_len c.loop-taken.seats - 1 - k) d (omega arith))
