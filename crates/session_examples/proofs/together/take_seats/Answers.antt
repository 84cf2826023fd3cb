use Rattle.std.proofs.Common.{arith, refl, ◌≡◌, ◌∙◌, ◌+◌, ◌-◌, ℕ, suc, length, get_or, vec_len, sym, ap, subst, length-take}
use Rattle.std.proofs.lemmas.List.{get_or-take}
use Rattle.session_api.specs.Standing.{Holds}
use Rattle.session_api.specs.declared.progress.Progress.TheVariants.{Idle}
use Rattle.session_api.specs.Progresses.{active_tx}
use Rattle.session_examples.specs.Walkers.{IsSeated}
use Rattle.law_base.proofs.Lists.{pushed_each}
use Rattle.session_examples.proofs.Walking.{holds_new}
use Rattle.session_examples.proofs.together.take_seats.Goals as goal

pub sit-session-requires-clause-session : goal.sit-session-requires-clause-session
sit-session-requires-clause-session g c =
    λ d. let sh = c.args.shards.now in let ws = c.loop-taken.walkers in let inv = c.loop-taken.invariant in let w = c.args.walkers.now in let ok = w.ok in let okW = ws.ok in let low = c.loop-taken-test.true in let hw = inv.walkers in let hs = inv.seats in let some = c.requires.some in
    let few = some.1 in
    subst (λ x. Holds sh x Idle) (sym (inv.same (vec_len ws - 1) d (omega arith)))
    (holds_new sh (vec_len ws - 1) 0 (vec_len ws - 1) (get_or w.items (vec_len ws - 1) d) (c.requires.new (vec_len ws - 1) d (omega arith)) refl c.requires.splits (omega arith) (omega arith))

pub loop-taken-preserved : goal.loop-taken-preserved
loop-taken-preserved g c =
    let sh = c.args.shards.now in let ws = c.loop-taken.walkers in let inv = c.loop-taken.invariant in let w = c.args.walkers.now in let ok = w.ok in let okW = ws.ok in let low = c.loop-taken-test.true in let hw = inv.walkers in let hs = inv.seats in let hwide = inv.wide in
    let s = c.sit-session.ensures in let okS = c.loop-taken.seats.ok in let okN = c.sit-session.new.walkers.ok in let o = c.sit-session.result in
    let fewer = ap length s.rest in let most = length-take (vec_len ws - 1) ws.items in let pl = c.push_reserved.ensures.len in let pc = c.push_reserved.ensures.capacity in
    record {
      walkers = omega arith;
      wide_walkers = s.capacity ∙ inv.wide_walkers;
      same = λ j d l. ap (λ z. get_or z j d) s.rest ∙ (get_or-take (vec_len ws - 1) ws.items j d (omega arith) ∙ inv.same j d (omega arith));
      seats = omega arith;
      wide = omega arith;
      seated = λ j d l. subst (λ z. (n : ℕ) → suc j + n ≡ vec_len w → IsSeated sh n (get_or z j d).session.shards.now (get_or z j d).session.walker (get_or z j d).session.progress (get_or z j d).session.saves.items) (sym c.push_reserved.ensures.items)
          (pushed_each (λ a z. (n : ℕ) → suc a + n ≡ vec_len w → IsSeated sh n z.session.shards.now z.session.walker z.session.progress z.session.saves.items) c.loop-taken.seats.items _ (vec_len c.loop-taken.seats) (omega arith) inv.seated
          (λ n at. record {
            on = s.shards;
            number_is = ap (λ x. x.number) (s.walker o.walker ∙ inv.same (vec_len ws - 1) o.walker (omega arith)) ∙ ((c.requires.new (vec_len ws - 1) o.walker (omega arith)).number_is ∙ (omega arith));
            holds = s.session;
            saved = s.saved;
            idle = ap active_tx s.idle;
          }) j d (omega arith));
    }

pub returns-clause-seated : goal.returns-clause-seated
returns-clause-seated g c =
    let sh = c.args.shards.now in let inv = c.loop-taken.invariant in let out = c.loop-taken-test.false in let hs = inv.seats in let some = c.requires.some in
    λ k d l. subst (λ z. IsSeated sh (suc k) z.session.shards.now z.session.walker z.session.progress z.session.saves.items) (sym (c.reverse.ensures.by_index k d (omega arith)))
    (inv.seated (vec_len c.loop-taken.seats - 1 - k) d (omega arith) (suc k) (omega arith))
