use Rattle.std.proofs.Common.{◌≡◌, ◌+◌, ◌++◌, map, length, vec_len, vec_capacity}
use Rattle.live_runs.proofs.sessions.leave_places.Given as goal

abbrev pub invariant-loop-place : goal.invariant-loop-place
invariant-loop-place g l = record {
  can : (goal.iterator-loop-place g).can_next l.place-iterator;
  finite : (goal.iterator-loop-place g).is_finite l.place-iterator;
  all : l.yielded ++ l.place-iterator.rest.items ≡ l.fn.places.items;
  len : vec_len l.walkers ≡ length l.yielded + 1;
  wide : vec_capacity l.walkers ≡ vec_capacity l.fn.walkers;
  made : l.walkers.items ≡ l.fn.walkers.items ++ map (λ s. s.session.session.walker) l.yielded;
}
