use Rattle.std.proofs.Common.{◌≡◌, map, take}
use Rattle.clv_base.specs.declared.names.TxId.{TxId}
use Rattle.clv_base.specs.Logs.{committed_somewhere}
use Rattle.history_replay.specs.Transactions.{has_member}
use Rattle.history_replay.proofs.standing.committed.Given as goal

abbrev pub invariant-loop-log : goal.invariant-loop-log
invariant-loop-log l = (t : TxId) → has_member l.set t ≡ committed_somewhere (map (λ v. v.items) (take l.log-index l.logs)) t
