use Rattle.script_runs.proofs.Ending.{given_up}
use Rattle.script_runs.proofs.trying.drop_where_down.Goals as goal

pub returns-in-Down-clause-told : goal.returns-in-Down-clause-told
returns-in-Down-clause-told g c =
    given_up (g.C.SessionCalls.missed c.abort-answer.new.self) c.args.cause c.in-Down.shard c.abort-answer.result (g.C.SessionCalls.seen c.args.session.now) (g.C.SessionCalls.seen c.abort-answer.new.self) c.in-Down.is c.abort-answer.ensures.told
