use Rattle.shard_laws.proofs.OrderIsKept.{order_is_kept}
use Rattle.shard_laws.proofs.laws.order_is_kept.Goals as goal

pub returns : goal.returns
returns c = order_is_kept
