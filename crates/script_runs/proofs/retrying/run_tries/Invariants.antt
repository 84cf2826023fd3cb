use Rattle.std.proofs.Common.{◌≡◌, Some}
use Rattle.clv_base.specs.declared.names.TxId.{TxId}
use Rattle.clv_base.specs.declared.names.Birth.{Birth as BirthIs}
use Rattle.script_runs.specs.Seen.{Active, Keeps, going_at_start, untouched}
use Rattle.script_runs.proofs.KeptTries.{TryingKept}
use Rattle.script_runs.proofs.retrying.run_tries.Given as goal

abbrev pub invariant-loop : goal.invariant-loop
invariant-loop g l =
    let u = g.C.SessionCalls.seen l.fn.session in
    record {
      session : g.C.SessionCalls.holds l.session;
      fresh : g.C.SessionCalls.going l.session ≡ Some going_at_start;
      base : g.C.SessionCalls.base l.session ≡ g.C.SessionCalls.base l.fn.session;
      misses : Keeps (g.C.SessionCalls.missed l.fn.session) (g.C.SessionCalls.missed l.session);
      trying :
          (tx : TxId) (birth : BirthIs) → u.standing ≡ Active tx birth 0 untouched → tx.serial ≡ u.serial → tx.run ≡ u.run → tx.session ≡ u.walker
          → TryingKept (g.C.SessionCalls.missed l.session) l.transaction tx birth l.most l.tried l.fate l.fn.book l.book u (g.C.SessionCalls.seen l.session);
    }
