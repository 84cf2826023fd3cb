-- The parts are of one shard.
use Rattle.std.proofs.Common.{ap, ◌∙◌}
use Rattle.shard_core.specs.Core.{Core}
use Rattle.shard_core.proofs.shard.ShardCore.number.Goals as goal

pub returns : goal.returns
returns g c = c.self.invariant.transactions ∙ ap (λ (v : Core). v.shard.shard) c.self.view_is
