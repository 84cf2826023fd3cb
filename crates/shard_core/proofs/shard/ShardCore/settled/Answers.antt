-- Nothing is left to do.
use Rattle.shard_core.proofs.Looked.{rest_is}
use Rattle.shard_core.proofs.shard.ShardCore.settled.Goals as goal

pub returns : goal.returns
returns g c = rest_is c.args.self.now c.requires
