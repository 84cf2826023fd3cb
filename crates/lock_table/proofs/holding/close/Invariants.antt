use Rattle.std.proofs.Common.{◌≡◌, ◌++◌, take, drop}
use Rattle.clv_base.specs.Locks.{close_locks}
use Rattle.lock_table.proofs.holding.close.Given as goal

abbrev pub invariant-loop-row : goal.invariant-loop-row
invariant-loop-row l = l.rows ≡ close_locks l.tx (take l.row-index l.initial.rows) ++ drop l.row-index l.initial.rows
