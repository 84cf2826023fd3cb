use Rattle.std.proofs.Common.{sym, ap, ◌∙◌, List}
use Rattle.clv_base.specs.declared.names.TxId.{TxId}
use Rattle.clv_base.specs.Logs.{standing}
use Rattle.shard_restoring.specs.Opened.{open_locks}
use Rattle.shard_restoring.proofs.Opening.{nobody_takes}
use Rattle.shard_restoring.proofs.locks.take_standing.Goals as goal

pub returns-then-is_empty : goal.returns-then-is_empty
returns-then-is_empty g c =
    let rows = g.L.Locks.rows c.args.locks.now in let ws = standing c.args.log.now in
    sym (ap (λ (ts : List TxId). open_locks ts ws rows) (c.is_empty.ensures.0 c.if-is_empty.true) ∙ nobody_takes ws rows)
