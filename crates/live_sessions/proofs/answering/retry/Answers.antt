use Rattle.std.proofs.Common.{◌∙◌, ap, sym, subst, Some, Err}
use Rattle.clv_base.specs.declared.names.TxId.{TxId}
use Rattle.live_lines.specs.declared.calls.Call.TheVariants as calls
use Rattle.live_lines.specs.declared.calls.Asked.TheVariants as asks
use Rattle.live_lines.specs.declared.calls.Reply.{Reply}
use Rattle.script_runs.specs.declared.ends.StopCause.{StopCause}
use Rattle.script_runs.specs.Seen.{untouched}
use Rattle.script_runs.specs.Told.{RetryTold}
use Rattle.live_sessions.specs.Served.{Did}
use Rattle.live_sessions.proofs.Doing.{goes_whole, idle_active, over_behind, retry_stopped}
use Rattle.live_sessions.proofs.answering.retry.Goals as goal

pub name-serial-requires : goal.name-serial-requires
name-serial-requires g c = record {
  active = let e = c.requires.ended in let b = c.in-Ok.ensures.told e.0 e.1 in (b.tx, e.0, 0, untouched, b.active);
}

pub returns-in-Ok-clause-did : goal.returns-in-Ok-clause-did
returns-in-Ok-clause-did g c =
    let e = c.requires.ended in
    let b = c.in-Ok.ensures.told e.0 e.1 in
    subst (λ (r : Reply). Did (g.C.SessionCalls.going c.args.session.now) (asks.Call calls.Retry) r (g.C.SessionCalls.seen c.args.session.now) (g.C.SessionCalls.seen c.retry.new.self)) (sym (c.goes_on.ensures.0))
    (e.0, e.1, b, ap (λ (t : TxId). t.serial) (c.name-serial.ensures b.tx e.0 0 untouched b.active) ∙ b.serial_is)

pub returns-in-Err-Down-clause-did : goal.returns-in-Err-Down-clause-did
returns-in-Err-Down-clause-did g c =
    let e = c.requires.ended in
    subst (λ (r : Reply). Did (g.C.SessionCalls.going c.args.session.now) (asks.Call calls.Retry) r (g.C.SessionCalls.seen c.args.session.now) (g.C.SessionCalls.seen c.retry.new.self)) (sym (c.goes_on-in-Err-Down.ensures.0))
    (e.0, e.1, subst (λ (x : StopCause). RetryTold {A = Unit {0}} e.0 (Err x) (g.C.SessionCalls.seen c.args.session.now) (g.C.SessionCalls.seen c.retry.new.self)) c.in-Err-Down.field-0-is (c.in-Err-Down.ensures.told e.0 e.1))

pub returns-in-Err-Down-clause-course : goal.returns-in-Err-Down-clause-course
returns-in-Err-Down-clause-course g c =
    let e = c.requires.ended in
    let told = subst (λ (x : StopCause). RetryTold {A = Unit {0}} e.0 (Err x) (g.C.SessionCalls.seen c.args.session.now) (g.C.SessionCalls.seen c.retry.new.self)) c.in-Err-Down.field-0-is (c.in-Err-Down.ensures.told e.0 e.1) in
    goes_whole (g.C.SessionCalls.grounds c.retry.new.self) c.goes_on-in-Err-Down.result.course _ _ c.goes_on-in-Err-Down.ensures.1 c.goes_on-in-Err-Down.ensures.2 (λ active. idle_active (g.C.SessionCalls.seen c.retry.new.self) (Some e.0, told.1) active)

pub returns-in-Err-clause-over : goal.returns-in-Err-clause-over
returns-in-Err-clause-over g c = over_behind c.in-Err.cause _ _ _ _ c.stops.ensures.0

pub returns-in-Err-clause-did : goal.returns-in-Err-clause-did
returns-in-Err-clause-did g c =
    subst (λ (r : Reply). Did (g.C.SessionCalls.going c.args.session.now) (asks.Call calls.Retry) r (g.C.SessionCalls.seen c.args.session.now) (g.C.SessionCalls.seen c.retry.new.self)) (sym (c.stops.ensures.0))
    (retry_stopped (g.C.SessionCalls.going c.args.session.now) c.in-Err.cause _ _ c.requires.ended c.in-Err.ensures.told)
