use Rattle.std.proofs.Common.{◌∙◌, ap, drop}
use Rattle.clv_base.specs.Logs.{fitting}
use Rattle.txn_core.specs.State.{TxState}
use Rattle.txn_core.proofs.shard.ShardTx.next_batch.Goals as goal
use Rattle.log_buffer.proofs.Laws.{fitting_by-fitting as fitting_same}

pub returns-clause-count : goal.returns-clause-count
returns-clause-count g c =
    let b = c.self.inside.buffer in
    c.next_batch.ensures.count ∙ fitting_same c.args.limit (drop b.taken b.records) ∙ ap (λ (v : TxState). fitting c.args.limit (drop v.taken (v.local).log)) c.self.view_is
