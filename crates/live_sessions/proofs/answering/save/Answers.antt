use Rattle.live_sessions.proofs.Doing.{goes_whole}
use Rattle.live_sessions.proofs.answering.save.Goals as goal

pub returns-in-Ok-clause-course : goal.returns-in-Ok-clause-course
returns-in-Ok-clause-course g c =
    let a = c.requires.active in
    let w = c.requires.whole in
    goes_whole (g.C.SessionCalls.grounds c.save.new.self) c.goes_on.result.course _ _ c.goes_on.ensures.1 c.goes_on.ensures.2 (λ active. (_, c.in-Ok.ensures.going a.0 a.1 a.2 a.3 w.0 a.4 w.1))
