use Rattle.script_runs.proofs.Kept.{end_committed, end_aborted}
use Rattle.script_runs.proofs.trying.end_as.Goals as goal

pub returns-in-Commit-clause-kept : goal.returns-in-Commit-clause-kept
returns-in-Commit-clause-kept g c tx birth nth touched active =
    end_committed (g.C.SessionCalls.missed c.commit-end.new.session) tx birth nth touched c.args.done c.args.ending c.commit-end.result.end c.fate_of-fate.result c.has_touched-touched.result c.commit-end.result.asked c.args.book.now c.commit-end.new.book
    (g.C.SessionCalls.seen c.args.session.now) (g.C.SessionCalls.seen c.commit-end.new.session) c.in-Commit.is active c.has_touched-touched.ensures c.fate_of-fate.ensures (c.commit-end.ensures.kept tx birth nth touched active)

pub returns-in-Abort-clause-kept : goal.returns-in-Abort-clause-kept
returns-in-Abort-clause-kept g c tx birth nth touched active =
    end_aborted (g.C.SessionCalls.missed c.abort-end.new.session) tx birth nth touched c.args.done c.args.ending c.abort-end.result c.fate_of-fate-in-Abort.result c.has_touched-touched.result c.args.book.now
    (g.C.SessionCalls.seen c.args.session.now) (g.C.SessionCalls.seen c.abort-end.new.session) c.in-Abort.is active c.has_touched-touched.ensures c.fate_of-fate-in-Abort.ensures (c.abort-end.ensures.told tx birth nth touched active)
