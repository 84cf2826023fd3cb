use Rattle.std.proofs.Common.{sym, subst, Ok}
use Rattle.live_lines.specs.declared.calls.Call.TheVariants as calls
use Rattle.live_lines.specs.declared.calls.Asked.TheVariants as asks
use Rattle.live_lines.specs.declared.calls.Reply.{Reply}
use Rattle.live_sessions.specs.Served.{Did}
use Rattle.live_sessions.proofs.Doing.{abort_stopped, leaves}
use Rattle.live_sessions.proofs.Turning.{abort_leads}
use Rattle.live_sessions.proofs.answering.abort.Goals as goal

pub returns-in-Err-clause-did : goal.returns-in-Err-clause-did
returns-in-Err-clause-did g c =
    subst (λ (r : Reply). Did (g.C.SessionCalls.going c.args.session.now) (asks.Call calls.Abort) r (g.C.SessionCalls.seen c.args.session.now) (g.C.SessionCalls.seen c.abort.new.self)) (sym (c.stops.ensures.0))
    (abort_stopped (g.C.SessionCalls.going c.args.session.now) (g.C.SessionCalls.missed c.abort.new.self) c.in-Err.cause _ _ c.requires.active c.in-Err.ensures.told)

pub returns-in-Ok-clause-did : goal.returns-in-Ok-clause-did
returns-in-Ok-clause-did g c =
    let a = c.requires.active in
    subst (λ (r : Reply). Did (g.C.SessionCalls.going c.args.session.now) (asks.Call calls.Abort) r (g.C.SessionCalls.seen c.args.session.now) (g.C.SessionCalls.seen c.abort.new.self)) (sym (c.goes_on.ensures.0))
    (a.0, a.1, a.2, a.3, a.4, leaves (g.C.SessionCalls.missed c.abort.new.self) a.0 a.1 a.3 (Ok (tt {0})) _ _ (c.in-Ok.ensures.told a.0 a.1 a.2 a.3 a.4))

pub returns-in-Err-clause-leads : goal.returns-in-Err-clause-leads
returns-in-Err-clause-leads g c = abort_leads (g.C.SessionCalls.missed c.abort.new.self) c.in-Err.cause _ _ c.stops.result.course c.stops.result.reply c.requires.active c.in-Err.ensures.told c.stops.ensures.0 c.stops.ensures.1
