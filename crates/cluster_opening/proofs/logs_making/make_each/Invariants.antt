use Rattle.std.proofs.Common.{◌≡◌, ◌<◌, ◌≤◌, ℕ, false}
use Rattle.io_model.specs.Sides.{sides_out, sides_told}
use Rattle.io_model.specs.Disk.{Tells}
use Rattle.cluster_opening.specs.Making.{IsMade, Spares, Stand}
use Rattle.cluster_opening.proofs.logs_making.make_each.Given as goal

abbrev pub invariant-loop-shard : goal.invariant-loop-shard
invariant-loop-shard g l = record {
  made : (n : ℕ) → n < l.shard → Tells (sides_told (g.H.House.story l.fn.house) n) (sides_told (g.H.House.story l.house) n) (IsMade l.header.1.0 n);
  spares : (n : ℕ) → Tells (sides_told (g.H.House.story l.fn.house) n) (sides_told (g.H.House.story l.house) n) Spares;
  inside : (n : ℕ) → n < 16 → sides_out (g.H.House.is_out l.house) n ≡ (false, false);
  counts : Stand (g.H.House.faults l.fn.house) (g.H.House.faults l.house);
  later : (n : ℕ) → l.shard ≤ n → sides_told (g.H.House.story l.house) n ≡ sides_told (g.H.House.story l.fn.house) n;
  splits : l.header.1.0 ≡ l.fn.splits;
}
