use Rattle.std.proofs.Common.{◌≡◌, ◌∙◌, ◌≤◌, ◌+◌, drop, subst, arith}
use Rattle.clv_base.specs.declared.names.TxId.{TxId}
use Rattle.clv_base.specs.Logs.{place_from, is_commit_of, commit_lsn}
use Rattle.clv_base.specs.Orders.{tx_get}
use Rattle.shard_restoring.specs.Opened.{first_of, commits_in}
use Rattle.shard_restoring.proofs.Noting.{left_at, noted, room_left}
use Rattle.shard_restoring.proofs.deps.note_commits.Goals as goal

-- src/deps.rt:76:5
pub loop-lsn-preserved : goal.loop-lsn-preserved
loop-lsn-preserved c =
    let r = c.index-log-lsn.result in
    let n = c.loop-lsn.lsn in
    let log = c.args.log.now in
    let left = left_at log n r r c.loop-lsn-test.true c.index-log-lsn.is in
    let room = room_left r (drop (n + 1) log) c.loop-lsn.deps.settled_room c.note_commit.new.deps.settled_room (subst (λ l. commits_in l ≤ c.loop-lsn.deps.settled_room) left c.loop-lsn.invariant.2) c.note_commit.ensures.room in
    let settled : (t : TxId) → first_of (tx_get t c.note_commit.new.deps.commits) (place_from (n + 1) (is_commit_of t) (drop (n + 1) log)) ≡ commit_lsn log t = λ t. noted t r n (n + 1) (drop (n + 1) log) (tx_get t c.loop-lsn.deps.commits) (tx_get t c.note_commit.new.deps.commits) (commit_lsn log t) (omega arith) (subst (λ l. first_of (tx_get t c.loop-lsn.deps.commits) (place_from n (is_commit_of t) l) ≡ commit_lsn log t) left (c.loop-lsn.invariant.0 t)) (c.note_commit.ensures.commits t) in
    (settled, c.note_commit.ensures.pairs ∙ c.loop-lsn.invariant.1, room)
