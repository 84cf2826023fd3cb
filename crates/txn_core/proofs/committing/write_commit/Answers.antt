use Rattle.std.proofs.Common.{List, sym, subst}
use Rattle.clv_base.specs.declared.logs.LogRecord.{LogRecord}
use Rattle.txn_core.specs.State.{AreSettled}
use Rattle.txn_core.proofs.Settling.{commit_settles}
use Rattle.txn_core.proofs.committing.write_commit.Goals as goal

pub returns-clause-settled : goal.returns-clause-settled
returns-clause-settled c =
    subst (λ (log : List LogRecord). AreSettled c.settle_first.new.deps.commits log) (sym c.append_reserved-lsn.ensures.records)
    (commit_settles c.args.deps.now.commits c.settle_first.new.deps.commits c.args.tx c.args.parts c.args.buffer.now.records c.append_reserved-lsn.result c.requires.settled c.append_reserved-lsn.ensures.lsn c.settle_first.ensures.commits)
