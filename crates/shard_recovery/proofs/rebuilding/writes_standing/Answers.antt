use Rattle.std.proofs.Common.{arith}
use Rattle.cascade_undo.proofs.Laws.{writes_within}
use Rattle.shard_recovery.proofs.Rooms.{next_at_most, none_left}
use Rattle.shard_recovery.proofs.rebuilding.writes_standing.Goals as goal

pub loop-tx-preserved : goal.loop-tx-preserved
loop-tx-preserved c =
    let log = c.args.buffer.now.records in let txs = c.args.txs.now in
    let next = next_at_most txs c.loop-tx.tx-index c.standing_writes.result _ log c.loop-tx-test.true c.standing_writes.ensures in
    let all = writes_within txs log in let end = c.end-no_more_than_all in
    omega (arith, c.loop-tx.invariant, next, all, end.ensures.end, end.type_inv, c.saturating_add-count.ensures)

pub returns : goal.returns
returns c =
    let left = none_left c.args.txs.now c.loop-tx.tx-index c.args.buffer.now.records (omega (arith, c.loop-tx-test.false)) in
    omega (arith, c.loop-tx.invariant, left)
