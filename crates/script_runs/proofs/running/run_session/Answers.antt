use Rattle.std.proofs.Common.{◌∙◌, take, arith}
use Rattle.script_runs.proofs.Sessions.{running_later, goes_on_at, stops_at, ends_at}
use Rattle.script_runs.proofs.running.run_session.Goals as goal

pub returns-in-Err-clause-follows : goal.returns-in-Err-clause-follows
returns-in-Err-clause-follows g c =
    let d = running_later (g.C.SessionCalls.missed c.loop-transaction.session) (g.C.SessionCalls.missed c.run_transaction.new.session) (take c.loop-transaction.transaction-index c.args.transactions.now) c.args.most
    (g.C.SessionCalls.seen c.args.session.now) (g.C.SessionCalls.seen c.loop-transaction.session) c.in-Err.ensures.misses c.loop-transaction.invariant.done in
    stops_at (g.C.SessionCalls.missed c.run_transaction.new.session) c.args.transactions.now c.loop-transaction.transaction-index c.transaction-item.result c.args.most c.in-Err.cause (g.C.SessionCalls.seen c.args.session.now) (g.C.SessionCalls.seen c.loop-transaction.session)
    (g.C.SessionCalls.seen c.run_transaction.new.session) c.loop-transaction-test.true c.transaction-item.is d c.in-Err.ensures.ran

pub loop-transaction-preserved : goal.loop-transaction-preserved
loop-transaction-preserved g c =
    let d = running_later (g.C.SessionCalls.missed c.loop-transaction.session) (g.C.SessionCalls.missed c.run_transaction.new.session) (take c.loop-transaction.transaction-index c.args.transactions.now) c.args.most
    (g.C.SessionCalls.seen c.args.session.now) (g.C.SessionCalls.seen c.loop-transaction.session) c.in-Ok.ensures.misses c.loop-transaction.invariant.done in
    record {
      session = c.in-Ok.ensures.session;
      base = c.in-Ok.ensures.base ∙ c.loop-transaction.invariant.base;
      misses = λ tx n es h. c.in-Ok.ensures.misses tx n es (c.loop-transaction.invariant.misses tx n es h);
      kept = c.in-Ok.ensures.kept;
      keeps = c.in-Ok.ensures.keeps ∙ c.loop-transaction.invariant.keeps;
      idle = c.in-Ok.ensures.idle;
      done =
          goes_on_at (g.C.SessionCalls.missed c.run_transaction.new.session) c.args.transactions.now c.loop-transaction.transaction-index c.transaction-item.result c.args.most (g.C.SessionCalls.seen c.args.session.now) (g.C.SessionCalls.seen c.loop-transaction.session)
          (g.C.SessionCalls.seen c.run_transaction.new.session) c.loop-transaction-test.true c.transaction-item.is d c.in-Ok.ensures.ran;
    }

pub returns-clause-follows : goal.returns-clause-follows
returns-clause-follows g c =
    ends_at (g.C.SessionCalls.missed c.loop-transaction.session) c.args.transactions.now c.loop-transaction.transaction-index c.args.most (g.C.SessionCalls.seen c.args.session.now) (g.C.SessionCalls.seen c.loop-transaction.session)
    (let out = c.loop-transaction-test.false in omega arith) c.loop-transaction.invariant.done
