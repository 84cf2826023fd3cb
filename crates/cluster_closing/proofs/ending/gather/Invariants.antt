use Rattle.std.proofs.Common.{◌≡◌, ◌<◌, ◌≤◌, ℕ, get_or, set, vec_len, vec_capacity, Some, None}
use Rattle.cluster_closing.proofs.ending.gather.Given as goal

abbrev pub invariant-loop-k : goal.invariant-loop-k
invariant-loop-k g l = record {
  len : vec_len l.room ≡ l.k;
  wide : vec_len l.initial.walkers ≤ vec_capacity l.room;
  long : vec_len l.walkers ≡ vec_len l.initial.walkers;
  ahead : (j : ℕ) (d : _) → l.k ≤ j → get_or l.walkers.items j d ≡ get_or l.initial.walkers.items j d;
  taken : (j : ℕ) (e : _) → j < l.k → (d : _) → get_or (get_or l.initial.walkers.items j d).passes.items l.n None ≡ Some (get_or l.room.items j e);
  numbers : (j : ℕ) (e : _) → j < l.k → (d : _) → (get_or l.walkers.items j e).number ≡ (get_or l.initial.walkers.items j d).number;
  left : (j : ℕ) (e : _) → j < l.k → (d : _) → (get_or l.walkers.items j e).passes.items ≡ set (get_or l.initial.walkers.items j d).passes.items l.n None;
}
