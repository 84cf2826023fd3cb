use Rattle.std.proofs.Common.{◌++◌, ◌∷◌, [], sym, ap, subst, ◌∙◌, length}
use Rattle.session_books.specs.Done.{Done, Did}
use Rattle.script_runs.specs.Acts.{answers_in}
use Rattle.script_runs.specs.Lines.{way_by, Doing}
use Rattle.script_runs.proofs.Stepping.{op_done, operation_fails}
use Rattle.script_runs.proofs.trying.operate.Goals as goal

pub returns-in-Ok-clause-told : goal.returns-in-Ok-clause-told
returns-in-Ok-clause-told g c tx birth lines u d =
    let v = g.C.SessionCalls.seen c.args.session.now in
    let w = g.C.SessionCalls.seen c.operate.new.self in
    let going = g.C.SessionCalls.going c.operate.new.self in
    let acts = d.done.acts in
    let told = c.in-Ok.ensures.told tx birth (length acts) d.done.touched d.done.standing_is in
    let so = c.in-Ok.ensures.going tx birth (length acts) d.done.touched d.over d.done.standing_is d.going_is in
    let place = c.answered.ensures lines (answers_in acts) (way_by d.over acts) c.args.op d.place c.requires.next in
    let kept =
    c.push_reserved.ensures.items ∙ ap (λ (x : Done). c.args.done.now.items ++ x ∷ []) (c.did.ensures ∙ ap (λ o. Did o c.in-Ok.answer) c.new.ensures) in
    subst (Doing tx birth lines u w going c.answered.new.self) (sym kept)
    (op_done tx birth lines u v (g.C.SessionCalls.going c.args.session.now) c.args.following.now c.args.done.now.items d w going c.answered.new.self c.args.op c.in-Ok.answer c.requires.next told so place)

pub returns-in-Err-clause-told : goal.returns-in-Err-clause-told
returns-in-Err-clause-told g c tx birth lines u d =
    operation_fails tx birth lines u (g.C.SessionCalls.seen c.args.session.now) (g.C.SessionCalls.going c.args.session.now) c.args.following.now c.args.done.now.items d (g.C.SessionCalls.seen c.operate.new.self) c.args.op c.in-Err.end c.requires.next
    (c.in-Err.ensures.told tx birth (length d.done.acts) d.done.touched d.done.standing_is)
