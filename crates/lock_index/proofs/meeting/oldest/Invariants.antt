use Rattle.std.proofs.Common.{◌≡◌, drop, None}
use Rattle.lock_index.specs.Rows.{groups}
use Rattle.lock_index.specs.Meeting.{visit, oldest_step}
use Rattle.lock_index.proofs.meeting.oldest.Given as goal

abbrev pub invariant-loop-need : goal.invariant-loop-need
invariant-loop-need l = visit (oldest_step l.tx) (drop l.need-index l.needs) (groups l.groups.entries) l.oldest ≡ visit (oldest_step l.tx) l.needs (groups l.groups.entries) None
