use Rattle.shard_ops.proofs.Planned as planned
use Rattle.shard_ops.proofs.performed.performed_by_plan.Goals as goal

pub returns : goal.returns
returns c = planned.performed_by_plan
