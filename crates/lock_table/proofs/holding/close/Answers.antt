use Rattle.lock_table.proofs.Closing.{close_locks-more}
use Rattle.lock_table.proofs.holding.close.Goals as goal

pub loop-row-preserved : goal.loop-row-preserved
loop-row-preserved c = close_locks-more c.args.tx c.args.rows.now c.loop-row.rows c.loop-row.row-index _ _ c.loop-row-test.true c.loop-row.auto.rows c.loop-row.invariant c.close_row.ensures
