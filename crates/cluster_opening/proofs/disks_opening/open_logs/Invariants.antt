use Rattle.std.proofs.Common.{◌≡◌, ◌≤◌, map, length, vec_capacity}
use Rattle.io_model.specs.Sides.{sides_out, sides_told}
use Rattle.log_analysis.specs.Facts.{KnowAll}
use Rattle.cluster_opening.specs.Houses.{WentOut, AreGates}
use Rattle.cluster_opening.proofs.disks_opening.open_logs.Given as goal

abbrev pub invariant-loop-shard : goal.invariant-loop-shard
invariant-loop-shard g l = record {
  gates : AreGates l.header.splits (map (λ v. v.items) l.logs.items) l.gates.items (sides_told (g.H.House.story l.fn.house));
  known : KnowAll l.facts.items (map (λ v. v.items) l.logs.items);
  count : length l.logs.items ≡ l.shard;
  room : 16 ≤ vec_capacity l.gates;
  room_too : 16 ≤ vec_capacity l.logs;
  room_of_facts : 16 ≤ vec_capacity l.facts;
  out : WentOut l.shard (g.H.House.faults l.fn.house) (g.H.House.faults l.house) (sides_out (g.H.House.is_out l.fn.house)) (sides_out (g.H.House.is_out l.house)) (sides_told (g.H.House.story l.fn.house)) (sides_told (g.H.House.story l.house));
}
