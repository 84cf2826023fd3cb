-- Up to where records were taken, between those that are durable and the log's end.
use Rattle.std.proofs.Common.{sym, ap, ◌∙◌}
use Rattle.clv_base.specs.Events.{taken}
use Rattle.shard_core.specs.Core.{Core}
use Rattle.shard_core.proofs.shard.ShardCore.taken.Goals as goal
use Rattle.shard_core.proofs.Flying.{taken_is}

pub returns-clause-taken : goal.returns-clause-taken
returns-clause-taken g c =
    let t = c.self.inside.transactions in c.taken.ensures.taken ∙ sym (taken_is t.durable t.taken) ∙ ap (λ (v : Core). taken v.shard) c.self.view_is
