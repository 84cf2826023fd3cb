use Rattle.std.proofs.Common.{◌≡◌, ◌<◌, ◌≤◌, ◌-◌, ℕ, get_or, take, vec_len, vec_capacity, Some}
use Rattle.cluster_opening.proofs.making.take_column.Given as goal

abbrev pub invariant-loop-n : goal.invariant-loop-n
invariant-loop-n g l = record {
  len : vec_len l.room ≡ l.n;
  wide : vec_len l.initial.passes ≤ vec_capacity l.room;
  long : vec_len l.passes ≡ vec_len l.initial.passes;
  ahead : (j : ℕ) (d : _) → l.n ≤ j → get_or l.passes.items j d ≡ get_or l.initial.passes.items j d;
  taken : (j : ℕ) (e : _) → j < l.n → (d : _) (f : _) → get_or l.room.items j e ≡ Some (get_or (get_or l.initial.passes.items j d).items (vec_len (get_or l.initial.passes.items j d) - 1) f);
  rest : (j : ℕ) (e : _) → j < l.n → (d : _) → (get_or l.passes.items j e).items ≡ take (vec_len (get_or l.initial.passes.items j d) - 1) (get_or l.initial.passes.items j d).items;
  capacity : (j : ℕ) (e : _) → j < l.n → (d : _) → vec_capacity (get_or l.passes.items j e) ≡ vec_capacity (get_or l.initial.passes.items j d);
}
