use Rattle.std.proofs.Common.{ℕ, ◌++◌, ◌∷◌, [], Option, Ok, sym, ap, subst, ◌∙◌, length}
use Rattle.session_books.specs.Done.{Done}
use Rattle.script_lang.specs.Savepoints.{upto_of}
use Rattle.script_runs.specs.Acts.{answers_in}
use Rattle.script_runs.specs.Told.{BackTold}
use Rattle.script_runs.specs.Lines.{way_by, Doing}
use Rattle.script_runs.proofs.Stepping.{back_unknown, back_nothing, back_done, back_fails, fails_above, found_one, found_none}
use Rattle.script_runs.proofs.trying.go_back.Goals as goal

pub returns-then-not-has_savepoint-clause-told : goal.returns-then-not-has_savepoint-clause-told
returns-then-not-has_savepoint-clause-told g c tx birth lines u d =
    let acts = d.done.acts in
    back_unknown tx birth lines u (g.C.SessionCalls.seen c.args.session.now) (g.C.SessionCalls.going c.args.session.now) c.args.following.now c.args.done.now.items d c.passed.new.self c.args.number
    (found_none (upto_of c.args.number d.over.saves.standing) (sym (c.has_savepoint.ensures d.over d.going_is) ∙ c.if-not-has_savepoint.true))
    (c.passed.ensures.back lines (answers_in acts) (way_by d.over acts) c.args.number d.place c.requires.next)

pub go_back-requires-clause-stands : goal.go_back-requires-clause-stands
go_back-requires-clause-stands g c =
    let x = c.requires.doing in
    let d = x.4 in
    let found = found_one (upto_of c.args.number d.over.saves.standing) (sym (c.has_savepoint.ensures d.over d.going_is) ∙ c.if-not-has_savepoint.false) in
    (d.over, found.0, d.going_is, found.1)

pub returns-in-Ok-Some-clause-told : goal.returns-in-Ok-Some-clause-told
returns-in-Ok-Some-clause-told g c tx birth lines u d =
    let acts = d.done.acts in
    let v = g.C.SessionCalls.seen c.args.session.now in
    let w = g.C.SessionCalls.seen c.go_back.new.self in
    let going = g.C.SessionCalls.going c.go_back.new.self in
    let found = found_one (upto_of c.args.number d.over.saves.standing) (sym (c.has_savepoint.ensures d.over d.going_is) ∙ c.if-not-has_savepoint.false) in
    let told =
    subst (λ (o : Option ℕ). BackTold tx birth (length acts) d.done.touched found.0 d.over.written (Ok o) v w) c.in-Ok-Some.field-0-is
    (c.in-Ok-Some.ensures.told tx birth (length acts) d.done.touched d.over found.0 d.done.standing_is d.going_is found.1) in
    let kept = c.push_reserved.ensures.items ∙ ap (λ (x : Done). c.args.done.now.items ++ x ∷ []) c.went_back.ensures in
    subst (Doing tx birth lines u w going c.passed-in-Ok-Some.new.self) (sym kept)
    (back_done tx birth lines u v (g.C.SessionCalls.going c.args.session.now) c.args.following.now c.args.done.now.items d w going c.passed-in-Ok-Some.new.self c.args.number found.0 c.in-Ok-Some.upto found.1 c.requires.next told
    (c.in-Ok-Some.ensures.going d.over found.0 d.going_is found.1) (c.passed-in-Ok-Some.ensures.back lines (answers_in acts) (way_by d.over acts) c.args.number d.place c.requires.next))

pub returns-in-Ok-None-clause-told : goal.returns-in-Ok-None-clause-told
returns-in-Ok-None-clause-told g c tx birth lines u d =
    let acts = d.done.acts in
    let v = g.C.SessionCalls.seen c.args.session.now in
    let w = g.C.SessionCalls.seen c.go_back.new.self in
    let found = found_one (upto_of c.args.number d.over.saves.standing) (sym (c.has_savepoint.ensures d.over d.going_is) ∙ c.if-not-has_savepoint.false) in
    let told =
    subst (λ (o : Option ℕ). BackTold tx birth (length acts) d.done.touched found.0 d.over.written (Ok o) v w) c.in-Ok-None.field-0-is
    (c.in-Ok-None.ensures.told tx birth (length acts) d.done.touched d.over found.0 d.done.standing_is d.going_is found.1) in
    back_nothing tx birth lines u v (g.C.SessionCalls.going c.args.session.now) c.args.following.now c.args.done.now.items d w (g.C.SessionCalls.going c.go_back.new.self) c.passed-in-Ok-None.new.self c.args.number found.0 found.1 told
    (c.in-Ok-None.ensures.going d.over found.0 d.going_is found.1) (c.passed-in-Ok-None.ensures.back lines (answers_in acts) (way_by d.over acts) c.args.number d.place c.requires.next)

pub returns-in-Err-clause-told : goal.returns-in-Err-clause-told
returns-in-Err-clause-told g c tx birth lines u d =
    let acts = d.done.acts in
    let found = found_one (upto_of c.args.number d.over.saves.standing) (sym (c.has_savepoint.ensures d.over d.going_is) ∙ c.if-not-has_savepoint.false) in
    let told = c.in-Err.ensures.told tx birth (length acts) d.done.touched d.over found.0 d.done.standing_is d.going_is found.1 in
    back_fails tx birth lines u (g.C.SessionCalls.seen c.args.session.now) (g.C.SessionCalls.going c.args.session.now) c.args.following.now c.args.done.now.items d (g.C.SessionCalls.seen c.go_back.new.self) c.args.number found.0 c.in-Err.end c.requires.next found.1
    (fails_above tx birth (length acts) d.done.touched found.0 d.over.written c.in-Err.end (g.C.SessionCalls.seen c.args.session.now) (g.C.SessionCalls.seen c.go_back.new.self) told) told
