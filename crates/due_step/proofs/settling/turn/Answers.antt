-- What is done is the next thing that is due; where nothing is, the candidate goes.
use Rattle.std.proofs.Common.{refl, ap, ◌∙◌}
use Rattle.due_step.specs.Ready.{but_least}
use Rattle.due_step.proofs.Turning.{goes_on, less_done, ready_rest, ready_same}
use Rattle.due_step.proofs.settling.turn.Goals as goal

pub returns-then-do_for-clause-same : goal.returns-then-do_for-clause-same
returns-then-do_for-clause-same g c = goes_on _ _ _ _ c.args.tx c.requires.ready c.requires.first (c.if-do_for.ensures.done refl)

pub returns-then-do_for-clause-less : goal.returns-then-do_for-clause-less
returns-then-do_for-clause-less g c =
    less_done (g.D.Dues.shard c.args.dues.now) (g.D.Dues.shard c.do_for.new.self) (g.D.Dues.candidates c.args.dues.now) (g.D.Dues.candidates c.do_for.new.self) (g.D.Dues.limit c.args.dues.now) (g.D.Dues.limit c.do_for.new.self) c.args.tx
    c.requires.ready c.requires.first (c.if-do_for.ensures.done refl) c.if-do_for.ensures.limit c.if-do_for.ensures.ready.few

pub returns-clause-ready : goal.returns-clause-ready
returns-clause-ready g c =
    let n = c.if-do_for.ensures.nothing refl in let left = c.leave_first.ensures in
    ready_same (g.D.Dues.shard c.args.dues.now) (g.D.Dues.shard c.leave_first.new.self) (but_least (g.D.Dues.candidates c.args.dues.now)) (g.D.Dues.candidates c.leave_first.new.self) (g.D.Dues.limit c.args.dues.now) (g.D.Dues.limit c.leave_first.new.self)
    (left.shard ∙ n.1) (left.candidates ∙ ap but_least n.2) (left.limit ∙ c.if-do_for.ensures.limit)
    (ready_rest (g.D.Dues.shard c.args.dues.now) (g.D.Dues.candidates c.args.dues.now) (g.D.Dues.limit c.args.dues.now) c.args.tx c.requires.ready c.requires.first n.0)
