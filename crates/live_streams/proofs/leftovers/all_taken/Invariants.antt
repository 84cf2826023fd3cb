use Rattle.std.specs.Bool.{Decides}
use Rattle.live_streams.specs.Rings.{AreFronts, AreAllTaken, SameMakers, SameTakers}
use Rattle.live_streams.proofs.leftovers.all_taken.Given as goal

abbrev pub invariant-loop-lane : goal.invariant-loop-lane
invariant-loop-lane g l = record {
  makers : SameMakers l.fn.makers.items l.makers.items;
  takers : SameTakers l.fn.takers.items l.takers.items;
  fronts : AreFronts l.lane l.makers.items l.takers.items;
  taken : Decides l.all (AreAllTaken l.lane l.makers.items l.takers.items);
}
