-- In the end there is no candidate, so nothing is due.
use Rattle.std.proofs.Common.{sym, ◌∙◌}
use Rattle.due_step.proofs.Turning.{none_left, is_none}
use Rattle.due_step.proofs.settling.settle_due.Goals as goal

pub returns-clause-done : goal.returns-clause-done
returns-clause-done g c =
    let done = is_none (g.D.Dues.candidates c.loop-tx.dues) (sym c.first.ensures ∙ c.in_default.is) in
    sym (none_left (g.D.Dues.shard c.loop-tx.dues) (g.D.Dues.candidates c.loop-tx.dues) (g.D.Dues.limit c.loop-tx.dues) c.loop-tx.invariant.ready done) ∙ c.loop-tx.invariant.same
