use Rattle.std.proofs.Common.{◌∙◌, sym, ap, subst, arith, ◌-◌, get_or, vec_len}
use Rattle.session_api.specs.Standing.{Holds, IsAtRest}
use Rattle.session_examples.proofs.Lists.{length_back}
use Rattle.session_examples.proofs.Walking.{holds_new, rests_as, sat_number, all_new, all_rest, rest_at, own_rest, renumbered}
use Rattle.session_examples.proofs.calling.call_and_look.Goals as goal

pub sit-session-requires-clause-session : goal.sit-session-requires-clause-session
sit-session-requires-clause-session g c =
    λ d. let sh = c.args.shards.now in let ws = c.args.walkers.now in let two = c.requires.two in let ok = ws.ok in let new = c.requires.new in
    holds_new sh 1 new.0 (vec_len ws - 1) (get_or ws.items (vec_len ws - 1) d) (new.1 (vec_len ws - 1) d (omega arith)) (omega arith) c.requires.splits (omega arith) (omega arith)

pub look_around-quiet-requires : goal.look_around-quiet-requires
look_around-quiet-requires g c = record {
  rest = (let sh = c.args.shards.now in let ws = c.args.walkers.now in let us = c.sit-session.new.walkers in let vs = c.leave.new.walkers in let two = c.requires.two in let ok = ws.ok in let okV = vs.ok in
      let o = c.sit-session.result in let z = c.call_all-answers.new.session in let e = c.call_all-answers.ensures in let new = c.requires.new in let m = vec_len ws - 1 in
      let over = subst (λ x. Holds x z.walker z.progress) (ap (λ x. x.now) e.shards ∙ c.sit-session.ensures.shards) e.session in
      let number = sat_number sh ws.items m new.0 o.walker z.walker new.1 (omega arith) (c.sit-session.ensures.walker o.walker) e.number in
      let long = length_back ws.items us.items vs.items (vec_len ws) _ (omega arith) (omega arith) c.sit-session.ensures.rest c.leave.ensures.walkers in
      let all = all_rest sh ws.items us.items vs.items (vec_len ws) z.walker (omega arith) (omega arith) c.sit-session.ensures.rest c.leave.ensures.walkers (all_new sh new.0 ws.items new.1) (rests_as sh m z.walker z.progress over number) in
      own_rest sh 1 _ (subst (λ w. IsAtRest sh 1 w) (sym c.index_mut.ensures.value) (all 1 c.index_mut.result.now (omega arith))));
}

pub returns-clause-rest : goal.returns-clause-rest
returns-clause-rest g c =
    let sh = c.args.shards.now in let ws = c.args.walkers.now in let us = c.sit-session.new.walkers in let vs = c.leave.new.walkers in let two = c.requires.two in let ok = ws.ok in let okV = vs.ok in
    let o = c.sit-session.result in let z = c.call_all-answers.new.session in let e = c.call_all-answers.ensures in let new = c.requires.new in let m = vec_len ws - 1 in
    let over = subst (λ x. Holds x z.walker z.progress) (ap (λ x. x.now) e.shards ∙ c.sit-session.ensures.shards) e.session in
    let number = sat_number sh ws.items m new.0 o.walker z.walker new.1 (omega arith) (c.sit-session.ensures.walker o.walker) e.number in
    let long = length_back ws.items us.items vs.items (vec_len ws) _ (omega arith) (omega arith) c.sit-session.ensures.rest c.leave.ensures.walkers in
    let all = all_rest sh ws.items us.items vs.items (vec_len ws) z.walker (omega arith) (omega arith) c.sit-session.ensures.rest c.leave.ensures.walkers (all_new sh new.0 ws.items new.1) (rests_as sh m z.walker z.progress over number) in
    let here = subst (λ w. IsAtRest sh 1 w) (sym c.index_mut.ensures.value) (all 1 c.index_mut.result.now (omega arith)) in
    rest_at sh vs.items 1 c.look_around-quiet.new.walker all (renumbered sh 1 c.index_mut.result.now c.look_around-quiet.new.walker c.look_around-quiet.ensures.rest here.number_is)
