use Rattle.std.proofs.Common.{◌-◌, ◌≤◌, ◌<◌, ◌+◌, ◌*◌, ◌^◌, ℕ, length, slice_index_or}
use Rattle.ordered_store.proofs.search.search.Given as goal

abbrev pub invariant-loop-low : goal.invariant-loop-low
invariant-loop-low g l = let key_of = g.K.Keyed.key_of in record {
  order : l.low ≤ l.high;
  within : l.high ≤ length l.items;
  below : (j : ℕ) → (d : _) → j < l.low → key_of (slice_index_or l.items j d) < l.key;
  above : (j : ℕ) → (d : _) → l.high ≤ j → j < length l.items → l.key < key_of (slice_index_or l.items j d);
  later : l.fn.steps ≤ l.steps;
  wide : 2 ^ (l.steps - l.fn.steps) * (l.high - l.low) ≤ length l.items;
  cost : 2 ^ (l.steps - l.fn.steps) ≤ 2 * length l.items + 1;
}

abbrev pub decreases-loop-low : goal.decreases-loop-low
decreases-loop-low g l = l.high - l.low
