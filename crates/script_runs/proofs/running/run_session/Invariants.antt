use Rattle.std.proofs.Common.{◌≡◌, take}
use Rattle.script_runs.specs.Ran.{IsIdle}
use Rattle.script_runs.specs.Books.{IsKept}
use Rattle.script_runs.specs.Seen.{Keeps}
use Rattle.script_runs.proofs.Sessions.{Running}
use Rattle.script_runs.proofs.running.run_session.Given as goal

-- the transactions so far were done
abbrev pub invariant-loop-transaction : goal.invariant-loop-transaction
invariant-loop-transaction g l =
    record {
      session : g.C.SessionCalls.holds l.session;
      base : g.C.SessionCalls.base l.session ≡ g.C.SessionCalls.base l.fn.session;
      kept : IsKept (g.C.SessionCalls.seen l.session) l.book;
      keeps : l.book.keeps ≡ l.fn.book.keeps;
      idle : IsIdle (g.C.SessionCalls.seen l.session);
      misses : Keeps (g.C.SessionCalls.missed l.fn.session) (g.C.SessionCalls.missed l.session);
      done : Running (g.C.SessionCalls.missed l.session) (take l.transaction-index l.transactions) l.most (g.C.SessionCalls.seen l.fn.session) (g.C.SessionCalls.seen l.session);
    }
