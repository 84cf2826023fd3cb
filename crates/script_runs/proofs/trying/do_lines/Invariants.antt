use Rattle.std.proofs.Common.{◌≡◌}
use Rattle.clv_base.specs.declared.names.TxId.{TxId}
use Rattle.clv_base.specs.declared.names.Birth.{Birth as BirthIs}
use Rattle.script_runs.specs.Seen.{Active, Keeps, untouched}
use Rattle.script_runs.specs.Lines.{Doing}
use Rattle.script_runs.proofs.trying.do_lines.Given as goal

abbrev pub invariant-loop : goal.invariant-loop
invariant-loop g l =
    record {
      session : g.C.SessionCalls.holds l.session;
      base : g.C.SessionCalls.base l.session ≡ g.C.SessionCalls.base l.fn.session;
      misses : Keeps (g.C.SessionCalls.missed l.fn.session) (g.C.SessionCalls.missed l.session);
      doing :
          (tx : TxId) (birth : BirthIs) → (g.C.SessionCalls.seen l.fn.session).standing ≡ Active tx birth 0 untouched
          → Doing tx birth l.lines (g.C.SessionCalls.seen l.fn.session) (g.C.SessionCalls.seen l.session) (g.C.SessionCalls.going l.session) l.following l.done.items;
    }
