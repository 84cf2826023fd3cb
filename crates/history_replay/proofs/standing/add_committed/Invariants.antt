use Rattle.std.proofs.Common.{◌≡◌, ◌||◌, take}
use Rattle.clv_base.specs.declared.names.TxId.{TxId}
use Rattle.clv_base.specs.Logs.{committed_in}
use Rattle.history_replay.specs.Transactions.{has_member}
use Rattle.history_replay.proofs.standing.add_committed.Given as goal

abbrev pub invariant-loop-record : goal.invariant-loop-record
invariant-loop-record l = (t : TxId) → has_member l.set t ≡ (has_member l.fn.set t || committed_in (take l.record-index l.log) t)
