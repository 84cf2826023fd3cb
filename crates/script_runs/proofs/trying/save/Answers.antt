use Rattle.std.proofs.Common.{sym, ◌∙◌, length}
use Rattle.script_runs.specs.Acts.{answers_in}
use Rattle.script_runs.specs.Lines.{way_by}
use Rattle.script_runs.proofs.Stepping.{save_done, between_fails, went_well}
use Rattle.script_runs.proofs.trying.save.Goals as goal

pub returns-then-is_err-clause-told : goal.returns-then-is_err-clause-told
returns-then-is_err-clause-told g c tx birth lines u d =
    between_fails tx birth lines u (g.C.SessionCalls.seen c.args.session.now) (g.C.SessionCalls.going c.args.session.now) c.args.following.now c.args.done.now d (g.C.SessionCalls.seen c.save.new.self) c.lack.result c.lack.ensures c.save.ensures.seen

pub returns-clause-told : goal.returns-clause-told
returns-clause-told g c tx birth lines u d =
    let acts = d.done.acts in
    save_done tx birth lines u (g.C.SessionCalls.seen c.args.session.now) (g.C.SessionCalls.going c.args.session.now) c.args.following.now c.args.done.now d (g.C.SessionCalls.seen c.save.new.self) (g.C.SessionCalls.going c.save.new.self) c.passed.new.self c.save.ensures.seen
    (went_well c.save.result (c.save.ensures.going tx birth (length acts) d.done.touched d.over d.done.standing_is d.going_is) (sym c.is_err.ensures.value ∙ c.if-is_err.false))
    (c.passed.ensures.saved lines (answers_in acts) (way_by d.over acts) d.place c.requires.next)
