use Rattle.script_runs.proofs.Begun.{together_follow}
use Rattle.script_runs.proofs.threads.run_all.Goals as goal

pub returns-in-Together-clause-follows : goal.returns-in-Together-clause-follows
returns-in-Together-clause-follows g c = together_follow g.C.SessionCalls.seen g.C.SessionCalls.missed c.args.most c.args.seats.now c.run_together.new.seats c.run_together.ensures.follows
