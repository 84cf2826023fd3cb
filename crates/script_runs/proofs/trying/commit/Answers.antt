use Rattle.script_runs.proofs.Ending.{active_where_down}
use Rattle.script_runs.proofs.trying.commit.Goals as goal

pub give_up-requires-clause-active : goal.give_up-requires-clause-active
give_up-requires-clause-active g c =
    let a = c.requires.active in
    active_where_down a.0 a.1 a.2 a.3 c.commit-end.result (g.C.SessionCalls.seen c.args.session.now) (g.C.SessionCalls.seen c.commit-end.new.self) (c.commit-end.ensures.told a.0 a.1 a.2 a.3 a.4)
