use Rattle.std.proofs.Common.{◌∙◌, sym, ap, subst, arith, ◌-◌, get_or, vec_len}
use Rattle.session_api.specs.Standing.{Holds, IsAtRest}
use Rattle.std.proofs.lemmas.List.{get_or-take}
use Rattle.session_examples.proofs.Walking.{holds_new, rest_new, rests_as, home_of, sat_number, two_home}
use Rattle.session_examples.proofs.reviving.revive_between.Goals as goal

pub sit-session-requires-clause-session : goal.sit-session-requires-clause-session
sit-session-requires-clause-session g c =
    λ d. let sh = c.args.shards.now in let ws = c.args.walkers.now in let two = c.requires.two in let ok = ws.ok in
    holds_new sh 1 0 (vec_len ws - 1) (get_or ws.items (vec_len ws - 1) d) (c.requires.new (vec_len ws - 1) d (omega arith)) (omega arith) c.requires.splits (omega arith) (omega arith)

pub revive-revival-requires : goal.revive-revival-requires
revive-revival-requires g c = record {
  rest = (let sh = c.args.shards.now in let ws = c.args.walkers.now in let two = c.requires.two in let ok = ws.ok in let okU = c.sit-session.new.walkers.ok in
      subst (λ w. IsAtRest sh 0 w) (sym c.index_mut.ensures.value)
      (subst (λ l. IsAtRest sh 0 (get_or l 0 c.index_mut.result.now)) (sym c.sit-session.ensures.rest)
      (subst (λ w. IsAtRest sh 0 w) (sym (get_or-take (vec_len ws - 1) ws.items 0 c.index_mut.result.now (omega arith))) (rest_new sh 0 0 _ (c.requires.new 0 c.index_mut.result.now (omega arith))))));
}

pub returns-clause-home : goal.returns-clause-home
returns-clause-home g c =
    let sh = c.args.shards.now in let ws = c.args.walkers.now in let us = c.sit-session.new.walkers in let vs = c.leave.new.walkers in let two = c.requires.two in let ok = ws.ok in
    let o = c.sit-session.result in let y = c.call_all-before.new.session in let z = c.call_all-after.new.session in let e = c.call_all-after.ensures in let m = vec_len ws - 1 in
    let over = subst (λ x. Holds x z.walker z.progress) (ap (λ x. x.now) (e.shards ∙ c.call_all-before.ensures.shards) ∙ c.sit-session.ensures.shards) e.session in
    let number = sat_number sh ws.items m 0 o.walker z.walker c.requires.new (omega arith) (c.sit-session.ensures.walker o.walker) (e.number ∙ c.call_all-before.ensures.number) in
    two_home sh ws.items us.items vs.items (vec_len ws) c.revive-revival.new.walker z.walker (omega arith) two c.sit-session.ensures.rest c.leave.ensures.walkers c.revive-revival.ensures.home
    (home_of sh 1 z.walker (rests_as sh 1 z.walker z.progress over (number ∙ (omega arith))))
