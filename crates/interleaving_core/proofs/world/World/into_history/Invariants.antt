use Rattle.std.proofs.Common.{◌≡◌}
use Rattle.interleaving_core.proofs.world.World.into_history.Given as goal

abbrev pub invariant-loop-seat : goal.invariant-loop-seat
invariant-loop-seat g l = l.history ≡ l.fn.self.history

abbrev pub decreases-loop-seat : goal.decreases-loop-seat
decreases-loop-seat g l = goal.left-loop-seat g l
