use Rattle.std.proofs.Common.{◌≡◌, ◌<◌, ◌≤◌, ℕ, false}
use Rattle.io_model.specs.Sides.{sides_out, sides_told}
use Rattle.cluster_opening.specs.Making.{IsEmpty, AreUnchanged, Stand}
use Rattle.cluster_opening.proofs.logs_making.test_all.Given as goal

abbrev pub invariant-loop-shard : goal.invariant-loop-shard
invariant-loop-shard g l = record {
  empty : (n : ℕ) → n < l.shard → IsEmpty (sides_told (g.H.House.story l.fn.house) n);
  unchanged : AreUnchanged (sides_told (g.H.House.story l.fn.house)) (sides_told (g.H.House.story l.house));
  inside : (n : ℕ) → n < 16 → sides_out (g.H.House.is_out l.house) n ≡ (false, false);
  counts : Stand (g.H.House.faults l.fn.house) (g.H.House.faults l.house);
  later : (n : ℕ) → l.shard ≤ n → sides_told (g.H.House.story l.house) n ≡ sides_told (g.H.House.story l.fn.house) n;
}
