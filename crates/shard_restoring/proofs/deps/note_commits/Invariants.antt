use Rattle.std.proofs.Common.{◌≡◌, ◌≤◌, drop}
use Rattle.clv_base.specs.declared.names.TxId.{TxId}
use Rattle.clv_base.specs.Orders.{tx_get}
use Rattle.clv_base.specs.Logs.{is_commit_of, place_from, commit_lsn}
use Rattle.shard_restoring.specs.Opened.{first_of, commits_in}
use Rattle.shard_restoring.proofs.deps.note_commits.Given as goal

abbrev pub invariant-loop-lsn : goal.invariant-loop-lsn
invariant-loop-lsn l =
    ((t : TxId) → first_of (tx_get t l.deps.commits) (place_from l.lsn (is_commit_of t) (drop l.lsn l.log)) ≡ commit_lsn l.log t)
    × (l.deps.pairs ≡ l.initial.deps.pairs) × (commits_in (drop l.lsn l.log) ≤ l.deps.settled_room)
