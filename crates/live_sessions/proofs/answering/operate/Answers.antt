use Rattle.std.proofs.Common.{sym, subst}
use Rattle.live_lines.specs.declared.calls.Reply.{Reply}
use Rattle.live_sessions.specs.Served.{Over}
use Rattle.live_sessions.proofs.Doing.{operate_other, operate_did, over_ended, goes_whole}
use Rattle.live_sessions.proofs.answering.operate.Goals as goal

pub returns-in-Ok-clause-over : goal.returns-in-Ok-clause-over
returns-in-Ok-clause-over g c =
    let a = c.requires.active in
    let w = c.requires.whole in
    subst (λ (r : Reply). Over r (g.C.SessionCalls.seen c.args.session.now) (g.C.SessionCalls.going c.args.session.now) (g.C.SessionCalls.going c.operate.new.self)) (sym (c.goes_on.ensures.0))
    (a.0, a.1, a.2, a.3, a.4, (w.0, w.1, c.in-Ok.ensures.going a.0 a.1 a.2 a.3 w.0 a.4 w.1))

pub returns-in-Ok-clause-course : goal.returns-in-Ok-clause-course
returns-in-Ok-clause-course g c =
    let a = c.requires.active in
    let w = c.requires.whole in
    goes_whole (g.C.SessionCalls.grounds c.operate.new.self) c.goes_on.result.course _ _ c.goes_on.ensures.1 c.goes_on.ensures.2 (λ active. (_, c.in-Ok.ensures.going a.0 a.1 a.2 a.3 w.0 a.4 w.1))

pub end_by-requires-clause-other : goal.end_by-requires-clause-other
end_by-requires-clause-other g c =
    let a = c.requires.active in operate_other a.0 a.1 a.2 a.3 c.args.op c.in-Err.end _ _ (c.in-Err.ensures.told a.0 a.1 a.2 a.3 a.4)

pub returns-in-Err-clause-did : goal.returns-in-Err-clause-did
returns-in-Err-clause-did g c =
    let a = c.requires.active in
    operate_did (g.C.SessionCalls.going c.args.session.now) a.0 a.1 a.2 a.3 c.args.op c.in-Err.end _ _ _ _ a.4 (c.in-Err.ensures.told a.0 a.1 a.2 a.3 a.4) c.end_by.ensures.ended

pub returns-in-Err-clause-over : goal.returns-in-Err-clause-over
returns-in-Err-clause-over g c = over_ended c.in-Err.end _ _ _ _ _ _ c.end_by.ensures.ended
