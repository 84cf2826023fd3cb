use Rattle.std.proofs.Common.{◌≡◌, ◌<◌, ◌≤◌, ◌+◌, ℕ, suc, get_or, vec_len, vec_capacity}
use Rattle.session_examples.specs.Walkers.{IsSeated}
use Rattle.session_examples.proofs.together.take_seats.Given as goal

abbrev pub invariant-loop-taken : goal.invariant-loop-taken
invariant-loop-taken g l = record {
  walkers : vec_len l.walkers + l._taken ≡ l.count + 1;
  wide_walkers : vec_capacity l.walkers ≡ vec_capacity l.fn.walkers;
  same : (j : ℕ) (d : _) → j < vec_len l.walkers → get_or l.walkers.items j d ≡ get_or l.fn.walkers.items j d;
  seats : vec_len l.seats + 1 ≡ l._taken;
  wide : l.count ≤ vec_capacity l.seats + 1;
  seated : (j : ℕ) (d : _) → j < vec_len l.seats → (n : ℕ) → suc j + n ≡ vec_len l.fn.walkers → IsSeated l.shards n (get_or l.seats.items j d).session.shards.now (get_or l.seats.items j d).session.walker (get_or l.seats.items j d).session.progress (get_or l.seats.items j d).session.saves.items;
}
