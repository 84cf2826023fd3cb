use Rattle.std.proofs.Common.{vec_capacity}
use Rattle.lock_table.proofs.Gathering.{Gathers}
use Rattle.lock_table.proofs.gaps.gather.Given as goal

abbrev pub invariant-loop-row : goal.invariant-loop-row
invariant-loop-row l = Gathers l.lower l.rows (vec_capacity l.initial.copies) l.row-index l.copies
