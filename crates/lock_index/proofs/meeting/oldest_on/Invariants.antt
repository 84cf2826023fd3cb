use Rattle.std.proofs.Common.{◌≡◌, drop}
use Rattle.lock_index.specs.Meeting.{along, oldest_step}
use Rattle.lock_index.proofs.meeting.oldest_on.Given as goal

abbrev pub invariant-loop-holder : goal.invariant-loop-holder
invariant-loop-holder l = along (oldest_step l.tx l.anchor l.mode) (drop l.holder-index l.holders) l.oldest ≡ along (oldest_step l.tx l.anchor l.mode) l.holders l.fn.so_far
