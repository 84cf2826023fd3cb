use Rattle.std.proofs.Common.{◌≡◌, ◌<◌, ◌≤◌, ◌+◌, ℕ, get_or, All, vec_len, vec_capacity}
use Rattle.cluster_opening.specs.Made.{IsNewWalker}
use Rattle.cluster_opening.proofs.making.make_all.Given as goal

abbrev pub invariant-loop-i : goal.invariant-loop-i
invariant-loop-i g l = record {
  rooms : vec_len l.rooms + l.i ≡ l.count;
  room : All (λ r. (vec_len r ≡ 0) × (vec_len l.initial.passes ≤ vec_capacity r)) l.rooms.items;
  len : vec_len l.passes ≡ vec_len l.initial.passes;
  left : (n : ℕ) (d : _) → n < vec_len l.initial.passes → vec_len (get_or l.passes.items n d) + l.i ≡ l.count;
  wide : (n : ℕ) (d : _) → n < vec_len l.initial.passes → l.count ≤ vec_capacity (get_or l.passes.items n d);
  same : (n k : ℕ) (d : _) (e : _) → n < vec_len l.initial.passes → k + l.i < l.count → get_or (get_or l.passes.items n d).items k e ≡ get_or (get_or l.initial.passes.items n d).items k e;
  walkers : vec_len l.walkers ≡ l.i;
  broad : l.count ≤ vec_capacity l.walkers;
  made : (j : ℕ) (d : _) → j < l.i → (m : ℕ) → j + m + 1 ≡ l.count → IsNewWalker l.shards m l.first (get_or l.walkers.items j d);
}
