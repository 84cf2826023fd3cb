-- Where nothing flies all that was taken is durable.
use Rattle.std.proofs.Common.{sym, ap, ◌∙◌, drop}
use Rattle.clv_base.specs.Logs.{fitting}
use Rattle.clv_base.specs.Events.{taken}
use Rattle.shard_core.specs.Core.{Core}
use Rattle.shard_core.proofs.shard.ShardCore.next_count.Goals as goal
use Rattle.shard_core.proofs.Flying.{taken_is}

pub returns : goal.returns
returns g c =
    let t = c.self.inside.transactions in
    c.next_batch.ensures.count ∙ ap (λ n. fitting 1048576 (drop n t.local.log)) (sym (taken_is t.durable t.taken)) ∙ ap (λ (v : Core). fitting 1048576 (drop (taken v.shard) v.shard.local.log)) c.self.view_is
