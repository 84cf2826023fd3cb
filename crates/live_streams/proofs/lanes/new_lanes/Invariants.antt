use Rattle.std.proofs.Common.{◌≤◌, vec_capacity}
use Rattle.live_streams.specs.Rings.{AreNew}
use Rattle.live_streams.proofs.lanes.new_lanes.Given as goal

abbrev pub invariant-loop : goal.invariant-loop
invariant-loop g l = record {
  new : AreNew l.counter l.makers.items l.takers.items;
  room : l.count ≤ vec_capacity l.makers;
  room_too : l.count ≤ vec_capacity l.takers;
}
