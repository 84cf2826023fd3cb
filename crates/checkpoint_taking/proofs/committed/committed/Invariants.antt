use Rattle.std.proofs.Common.{◌≡◌, take}
use Rattle.clv_base.specs.declared.names.TxId.{TxId}
use Rattle.clv_base.specs.Logs.{committed_in}
use Rattle.history_replay.specs.Transactions.{has_member}
use Rattle.checkpoint_taking.proofs.committed.committed.Given as goal

abbrev pub invariant-loop-r : goal.invariant-loop-r
invariant-loop-r l = (t : TxId) → has_member l.set t ≡ committed_in (take l.r-index l.log) t
