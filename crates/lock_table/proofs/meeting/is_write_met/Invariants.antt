use Rattle.std.proofs.Common.{◌≡◌, drop}
use Rattle.clv_base.specs.Modes.{writes}
use Rattle.clv_base.specs.Locks.{meets}
use Rattle.lock_table.proofs.meeting.is_write_met.Given as goal

abbrev pub invariant-loop-need : goal.invariant-loop-need
invariant-loop-need l = meets writes (drop l.need-index l.needs) l.row ≡ meets writes l.needs l.row
