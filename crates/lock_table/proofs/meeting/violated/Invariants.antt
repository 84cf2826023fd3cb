use Rattle.std.proofs.Common.{◌≡◌, drop}
use Rattle.clv_base.specs.Locks.{violated_by, violated}
use Rattle.lock_table.proofs.meeting.violated.Given as goal

abbrev pub invariant-loop-row : goal.invariant-loop-row
invariant-loop-row l = violated_by l.tx l.needs (drop l.row-index l.rows) l.found.items ≡ violated l.tx l.needs l.rows
