use Rattle.std.proofs.Common.{◌≡◌, not, drop}
use Rattle.clv_base.specs.Modes.{compatible}
use Rattle.clv_base.specs.Locks.{meets}
use Rattle.lock_table.proofs.meeting.conflicts.Given as goal

abbrev pub invariant-loop-need : goal.invariant-loop-need
invariant-loop-need l = meets (λ a h. not (compatible a h)) (drop l.need-index l.needs) l.row ≡ meets (λ a h. not (compatible a h)) l.needs l.row
