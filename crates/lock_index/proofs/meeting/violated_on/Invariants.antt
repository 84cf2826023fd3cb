use Rattle.std.proofs.Common.{◌≡◌, drop}
use Rattle.lock_index.specs.Meeting.{along, violated_step}
use Rattle.lock_index.proofs.meeting.violated_on.Given as goal

abbrev pub invariant-loop-holder : goal.invariant-loop-holder
invariant-loop-holder l = along (violated_step l.tx l.fn.anchor l.mode) (drop l.holder-index l.holders) l.found.items ≡ along (violated_step l.tx l.fn.anchor l.mode) l.holders l.initial.found.items
