use Rattle.live_sessions.proofs.Doing.{active_by, closes_dropped, drops}
use Rattle.live_sessions.proofs.serving.close.Goals as goal

pub returns-in-Active-clause-closes : goal.returns-in-Active-clause-closes
returns-in-Active-clause-closes g c =
    closes_dropped c.args.course.ended _ c.stage.result c.in-Active.touched _ _ c.in_default.not-Some c.stage.ensures c.in-Active.is
    (drops (g.C.SessionCalls.missed c.abort.new.self) c.abort.result _ _ (active_by (g.C.SessionCalls.seen c.args.session.now) c.stage.result c.in-Active.touched c.stage.ensures c.in-Active.is) c.abort.ensures.told)
