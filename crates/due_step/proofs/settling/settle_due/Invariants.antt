-- All that is due comes to the same in the end as at the start.
use Rattle.std.proofs.Common.{◌≡◌}
use Rattle.clv_base.specs.Events.{finish}
use Rattle.due_step.specs.Ready.{IsReady, left}
use Rattle.due_step.proofs.settling.settle_due.Given as goal

abbrev pub invariant-loop-tx : goal.invariant-loop-tx
invariant-loop-tx g l = record {
  ready : IsReady (g.D.Dues.shard l.dues) (g.D.Dues.candidates l.dues) (g.D.Dues.limit l.dues);
  same : finish (g.D.Dues.shard l.dues) ≡ finish (g.D.Dues.shard l.initial.dues);
  limit : g.D.Dues.limit l.dues ≡ g.D.Dues.limit l.initial.dues;
}

abbrev pub decreases-loop-tx : goal.decreases-loop-tx
decreases-loop-tx g l = left (g.D.Dues.shard l.dues) (g.D.Dues.candidates l.dues) (g.D.Dues.limit l.dues)
