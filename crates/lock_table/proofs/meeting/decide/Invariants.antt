use Rattle.std.proofs.Common.{◌≤◌, drop, length}
use Rattle.lock_table.specs.Rows.{AreOldest}
use Rattle.lock_table.proofs.meeting.decide.Given as goal

abbrev pub invariant-loop-left : goal.invariant-loop-left
invariant-loop-left l = record {
  within : l.left ≤ length l.rows;
  oldest : AreOldest l.tx l.birth l.needs (drop l.left l.rows) l.oldest.older l.oldest.active;
}

abbrev pub decreases-loop-left : goal.decreases-loop-left
decreases-loop-left l = l.left
