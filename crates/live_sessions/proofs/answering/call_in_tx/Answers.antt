use Rattle.std.proofs.Common.{◌∙◌, sym}
use Rattle.script_lang.specs.Savepoints.{upto_of}
use Rattle.live_sessions.proofs.Doing.{found_one, whole}
use Rattle.live_sessions.proofs.answering.call_in_tx.Goals as goal

pub go_back-requires-clause-stands : goal.go_back-requires-clause-stands
go_back-requires-clause-stands g c =
    let w = whole (g.C.SessionCalls.grounds c.args.session.now) c.args.course _ _ c.requires.course c.requires.live c.requires.active in
    let found = found_one (upto_of c.in-Back.number ((w.0).saves).standing) (sym (c.has_savepoint.ensures w.0 w.1) ∙ c.if-has_savepoint.true) in
    (w.0, found.0, w.1, found.1)
