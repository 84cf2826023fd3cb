-- The next one stays exactly where it passes.
use Rattle.std.proofs.Common.{ap, sym, ◌∙◌, Bool}
use Rattle.clv_base.specs.declared.names.TxId.{TxId}
use Rattle.clv_base.specs.Facts.{facts_of, has_durable_commit}
use Rattle.shard_core.proofs.Looked.{kept, passed}
use Rattle.shard_core.proofs.shard.ShardCore.durable_of.Goals as goal
use Rattle.shard_core.proofs.shard.ShardCore.durable_of.Goals.{then-has_durable_commit+in-Ok, else-has_durable_commit}

pub loop-tx-preserved : goal.loop-tx-preserved
loop-tx-preserved g c =
    let i = c.loop-tx.tx-index in let xs = c.args.txs.now in let P : TxId → Bool = λ tx. has_durable_commit (facts_of c.args.self.now.shard tx) in
    elim c.if-has_durable_commit.branch [
      | then-has_durable_commit+in-Ok w ↦ kept P xs i c.loop-tx.list.items c.if-has_durable_commit.list.items c.loop-tx-test.true (sym c.has_durable_commit.ensures ∙ w.if-has_durable_commit.true) (ap (λ l. l.items) w.list-is ∙ w.in-Ok.ensures.items) c.loop-tx.invariant
      | else-has_durable_commit w ↦ passed P xs i c.loop-tx.list.items c.if-has_durable_commit.list.items c.loop-tx-test.true (sym c.has_durable_commit.ensures ∙ w.if-has_durable_commit.false) (ap (λ l. l.items) w.list-is) c.loop-tx.invariant
    ]
