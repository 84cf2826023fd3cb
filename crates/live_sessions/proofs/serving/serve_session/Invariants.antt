use Rattle.std.proofs.Common.{◌≡◌, List, ◌++◌}
use Rattle.live_lines.specs.declared.calls.Asked.{Asked}
use Rattle.live_lines.specs.declared.calls.Reply.{Reply}
use Rattle.script_runs.specs.Seen.{Keeps}
use Rattle.live_sessions.specs.Served.{Served, Goes}
use Rattle.live_sessions.proofs.serving.serve_session.Given as goal

abbrev pub invariant-loop : goal.invariant-loop
invariant-loop g l =
    record {
      session : g.C.SessionCalls.holds l.session;
      base : g.C.SessionCalls.base l.session ≡ g.C.SessionCalls.base l.fn.session;
      misses : Keeps (g.C.SessionCalls.missed l.fn.session) (g.C.SessionCalls.missed l.session);
      course : Goes (g.C.SessionCalls.grounds l.session) l.course (g.C.SessionCalls.seen l.session) (g.C.SessionCalls.going l.session);
      asked : List Asked;
      replies : List Reply;
      took : g.I.Inbox.taken l.inbox ≡ g.I.Inbox.taken l.fn.inbox ++ asked;
      told : g.O.Outbox.told l.outbox ≡ g.O.Outbox.told l.fn.outbox ++ replies;
      served : Served asked replies (g.C.SessionCalls.seen l.fn.session) l.course (g.C.SessionCalls.seen l.session) (g.C.SessionCalls.going l.session);
      inbox : g.I.Inbox.same l.fn.inbox l.inbox;
      outbox : g.O.Outbox.same l.fn.outbox l.outbox;
    }
