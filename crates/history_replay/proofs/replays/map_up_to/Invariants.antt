use Rattle.std.proofs.Common.{◌≡◌, [], drop}
use Rattle.clv_base.specs.Maps.{map_up_to}
use Rattle.history_replay.specs.Acting.{trail_over}
use Rattle.history_replay.proofs.replays.map_up_to.Given as goal

-- what is left over what was found is all over the start
abbrev pub invariant-loop-mark : goal.invariant-loop-mark
invariant-loop-mark l = map_up_to l.upto l.found (trail_over [] (drop l.mark-index l.trail)) ≡ map_up_to l.upto l.start (trail_over [] l.trail)
