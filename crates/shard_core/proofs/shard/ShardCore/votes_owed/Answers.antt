-- One transaction's votes more.
use Rattle.std.proofs.Common.{ap, arith}
use Rattle.shard_core.specs.Core.{Core}
use Rattle.shard_core.proofs.Trimmed.{owed_step}
use Rattle.shard_core.proofs.shard.ShardCore.votes_owed.Goals as goal

pub loop-tx-preserved : goal.loop-tx-preserved
loop-tx-preserved g c =
    let i = c.loop-tx.tx-index in
    owed_step c.args.self.now.shard.voters c.self.inside.participant.voters c.args.txs.now i _ c.loop-tx.count c.owed.result c.in-Some.more (ap (λ (v : Core). v.shard.voters) c.self.view_is) c.loop-tx-test.true c.loop-tx.invariant c.owed.ensures
    (omega (arith, c.in-Some.ensures))
