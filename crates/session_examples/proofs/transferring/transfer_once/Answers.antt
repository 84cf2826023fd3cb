use Rattle.std.proofs.Common.{◌≡◌, ◌∙◌, sym, ap, subst, arith, ◌-◌, [], get_or, vec_len}
use Rattle.cluster_turns.specs.Walkers.{kept}
use Rattle.cluster_runs.specs.Ends.{walked_by}
use Rattle.session_api.specs.Standing.{Holds}
use Rattle.session_api.proofs.Laws.{new_walkers_keep_none}
use Rattle.session_examples.specs.Moves.{MovesAs}
use Rattle.session_examples.proofs.Lists.{length_back, second_back}
use Rattle.session_examples.proofs.Walking.{holds_new, holds_later, rests_as, sat_number, all_new, all_rest}
use Rattle.session_examples.proofs.Ending.{walked_second, has_made}
use Rattle.session_examples.proofs.transferring.transfer_once.Goals as goal

pub sit-session-requires-clause-session : goal.sit-session-requires-clause-session
sit-session-requires-clause-session g c =
    λ d. let sh = c.args.shards.now in let ws = c.args.walkers.now in let two = c.requires.two in let ok = ws.ok in
    holds_new sh 1 0 (vec_len ws - 1) (get_or ws.items (vec_len ws - 1) d) (c.requires.new (vec_len ws - 1) d (omega arith)) (omega arith) c.requires.splits (omega arith) (omega arith)

pub returns-clause-two : goal.returns-clause-two
returns-clause-two g c =
    let ws = c.args.walkers.now in let us = c.sit-session.new.walkers in let vs = c.leave.new.walkers in let two = c.requires.two in let ok = ws.ok in let okV = vs.ok in
    let long = length_back ws.items us.items vs.items (vec_len ws) _ (omega arith) (omega arith) c.sit-session.ensures.rest c.leave.ensures.walkers in omega arith

pub returns-clause-rest : goal.returns-clause-rest
returns-clause-rest g c =
    let sh = c.args.shards.now in let ws = c.args.walkers.now in let us = c.sit-session.new.walkers in let vs = c.leave.new.walkers in let two = c.requires.two in let ok = ws.ok in
    let o = c.sit-session.result in let z = c.transfer-transferred.new.session in let e = c.transfer-transferred.ensures in let new = c.requires.new in
    let held = holds_later z.shards.now o.walker z.walker o.progress z.progress (subst (λ x. Holds x.now o.walker o.progress) (sym e.shards) c.sit-session.ensures.session) e.session e.later in
    let over = subst (λ x. Holds x z.walker z.progress) (ap (λ x. x.now) e.shards ∙ c.sit-session.ensures.shards) held in
    let number = sat_number sh ws.items (vec_len ws - 1) 0 o.walker z.walker new (omega arith) (c.sit-session.ensures.walker o.walker) e.later.number_is in
    all_rest sh ws.items us.items vs.items (vec_len ws) z.walker (omega arith) (omega arith) c.sit-session.ensures.rest c.leave.ensures.walkers (all_new sh 0 ws.items new) (rests_as sh (vec_len ws - 1) z.walker z.progress over number)

pub returns-clause-made : goal.returns-clause-made
returns-clause-made g c =
    let sh = c.args.shards.now in let ws = c.args.walkers.now in let us = c.sit-session.new.walkers in let vs = c.leave.new.walkers in let two = c.requires.two in let ok = ws.ok in
    let o = c.sit-session.result in let z = c.transfer-transferred.new.session in let e = c.transfer-transferred.ensures in let new = c.requires.new in let m = vec_len ws - 1 in let is = c.sit-session.ensures.walker o.walker in
    let number = sat_number sh ws.items m 0 o.walker z.walker new (omega arith) is e.later.number_is in
    has_made sh c.args.from c.args.to c.args.amount c.transfer-transferred.result o.walker z.walker (walked_by vs.items)
    (subst (λ w. kept w.passes.items ≡ []) (sym is) (new_walkers_keep_none _ _ _ sh m 0 (get_or ws.items m o.walker) (new m o.walker (omega arith))))
    (subst (λ l. walked_by l 1 ≡ kept z.walker.passes.items) (sym (second_back ws.items us.items vs.items (vec_len ws) z.walker two c.sit-session.ensures.rest c.leave.ensures.walkers))
    (walked_second ws.items z.walker (omega arith) (new 0 z.walker (omega arith)).number_is (number ∙ (omega arith))))
    (subst (λ x. MovesAs x c.args.from c.args.to c.args.amount c.transfer-transferred.result o.walker z.walker) c.sit-session.ensures.shards e.moved)
