-- There are places for those so far.
use Rattle.std.proofs.Common.{◌≤◌, ◌<◌, drop}
use Rattle.std.specs.List.{AllByRecursion}
use Rattle.two_phase_commit.proofs.Ballots.{AreEnough}
use Rattle.two_phase_commit.proofs.votes.places_for.Given as goal

abbrev pub invariant-loop-part : goal.invariant-loop-part
invariant-loop-part l = record {
  enough : AreEnough l.count (drop l.part-index l.touched) l.touched;
  few : l.count ≤ 16;
  low : AllByRecursion (λ t. t.0 < 16) (drop l.part-index l.touched);
}
