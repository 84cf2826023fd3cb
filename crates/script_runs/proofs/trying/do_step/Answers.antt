use Rattle.std.proofs.Common.{◌∙◌, ap, Some}
use Rattle.script_runs.proofs.Doing.{next_has_range}
use Rattle.script_runs.proofs.Stepping.{next_op_is}
use Rattle.script_runs.proofs.trying.do_step.Goals as goal

pub operate-requires-clause-range : goal.operate-requires-clause-range
operate-requires-clause-range g c =
    let x = c.requires.doing in
    let d = x.5 in
    next_has_range x.2 d.done.acts c.in-Operate.op x.4
    (next_op_is x.0 x.1 x.2 x.3 (g.C.SessionCalls.seen c.args.session.now) (g.C.SessionCalls.going c.args.session.now) c.args.following.now c.args.done.now.items d c.in-Operate.op (c.requires.next ∙ ap (λ x. Some x) c.in-Operate.is))
