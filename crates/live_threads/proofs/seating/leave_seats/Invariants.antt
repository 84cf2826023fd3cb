use Rattle.std.proofs.Common.{◌≡◌, ◌<◌, ◌+◌, ◌++◌, ℕ, true, map, length, get_or, vec_len, vec_capacity}
use Rattle.live_threads.proofs.seating.leave_seats.Given as goal

abbrev pub invariant-loop-seat : goal.invariant-loop-seat
invariant-loop-seat g l = record {
  can : (goal.iterator-loop-seat g).can_next l.seat-iterator;
  finite : (goal.iterator-loop-seat g).is_finite l.seat-iterator;
  all : l.yielded ++ l.seat-iterator.rest.items ≡ l.fn.seats.items;
  len : vec_len l.places ≡ length l.yielded;
  len_lines : vec_len l.lines ≡ length l.yielded;
  len_answers : vec_len l.answers ≡ vec_len l.fn.answers + length l.yielded;
  room : vec_capacity l.places ≡ vec_capacity l.fn.places;
  room_lines : vec_capacity l.lines ≡ vec_capacity l.fn.lines;
  room_answers : vec_capacity l.answers ≡ vec_capacity l.fn.answers;
  places : l.places.items ≡ map (λ s. s.place) l.yielded;
  lines : l.lines.items ≡ map (λ s. s.inbox.lines) l.yielded;
  answers : l.answers.items ≡ l.fn.answers.items ++ map (λ s. s.outbox.answers) l.yielded;
  told : l.all ≡ true → (k : ℕ) (d : _) → k < length l.yielded → (get_or l.yielded k d).all_told ≡ true;
}
