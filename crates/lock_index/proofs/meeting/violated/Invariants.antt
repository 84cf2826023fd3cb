use Rattle.std.proofs.Common.{◌≡◌, drop, []}
use Rattle.lock_index.specs.Rows.{groups}
use Rattle.lock_index.specs.Meeting.{visit, violated_step}
use Rattle.lock_index.proofs.meeting.violated.Given as goal

abbrev pub invariant-loop-need : goal.invariant-loop-need
invariant-loop-need l = visit (violated_step l.tx) (drop l.need-index l.needs) (groups l.groups.entries) l.found.items ≡ visit (violated_step l.tx) l.needs (groups l.groups.entries) []
