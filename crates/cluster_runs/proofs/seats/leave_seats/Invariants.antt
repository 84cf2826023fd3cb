use Rattle.std.proofs.Common.{◌≡◌, ◌+◌, ◌++◌, map, length, vec_len, vec_capacity}
use Rattle.cluster_runs.proofs.seats.leave_seats.Given as goal

abbrev pub invariant-loop-seat : goal.invariant-loop-seat
invariant-loop-seat g l = record {
  can : (goal.iterator-loop-seat g).can_next l.seat-iterator;
  finite : (goal.iterator-loop-seat g).is_finite l.seat-iterator;
  all : l.yielded ++ l.seat-iterator.rest.items ≡ l.fn.seats.items;
  len : vec_len l.walkers ≡ length l.yielded + 1;
  wide : vec_capacity l.walkers ≡ vec_capacity l.fn.walkers;
  len_books : vec_len l.books ≡ length l.yielded;
  wide_books : vec_capacity l.books ≡ vec_capacity l.fn.books;
  made_books : l.books.items ≡ map (λ s. s.book) l.yielded;
  made : l.walkers.items ≡ l.fn.walkers.items ++ map (λ s. s.session.session.walker) l.yielded;
}
