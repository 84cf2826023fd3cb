use Rattle.ended_laws.proofs.examples.one_shard_is_spent.Goals as goal
use Rattle.ended_laws.proofs.Worked.{one_shard_is_spent}

pub returns : goal.returns
returns c = one_shard_is_spent
