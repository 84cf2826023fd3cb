use Rattle.live_sessions.proofs.Doing.{back_other, back_did, over_ended, goes_whole}
use Rattle.live_sessions.proofs.answering.go_back.Goals as goal

pub returns-in-Ok-clause-course : goal.returns-in-Ok-clause-course
returns-in-Ok-clause-course g c =
    let s = c.requires.stands in
    goes_whole (g.C.SessionCalls.grounds c.go_back.new.self) c.goes_on.result.course _ _ c.goes_on.ensures.1 c.goes_on.ensures.2 (λ active. (_, c.in-Ok.ensures.going s.0 s.1 s.2 s.3))

pub end_by-requires-clause-other : goal.end_by-requires-clause-other
end_by-requires-clause-other g c =
    let a = c.requires.active in
    let s = c.requires.stands in
    back_other a.0 a.1 a.2 a.3 s.1 (s.0).written c.in-Err.end _ _ (c.in-Err.ensures.told a.0 a.1 a.2 a.3 s.0 s.1 a.4 s.2 s.3)

pub returns-in-Err-clause-did : goal.returns-in-Err-clause-did
returns-in-Err-clause-did g c =
    let a = c.requires.active in
    let s = c.requires.stands in
    back_did (g.C.SessionCalls.going c.args.session.now) c.args.number s.1 s.0 s.2 s.3 a.0 a.1 a.2 a.3 c.in-Err.end _ _ _ _ a.4 (c.in-Err.ensures.told a.0 a.1 a.2 a.3 s.0 s.1 a.4 s.2 s.3)
    c.end_by.ensures.ended

pub returns-in-Err-clause-over : goal.returns-in-Err-clause-over
returns-in-Err-clause-over g c = over_ended c.in-Err.end _ _ _ _ _ _ c.end_by.ensures.ended
