use Rattle.std.proofs.Common.{◌≡◌, ◌≤◌, ◌+◌, ◌++◌, map, reverse, vec_len, vec_capacity}
use Rattle.live_threads.proofs.seating.take_seats.Given as goal

abbrev pub invariant-loop-taken : goal.invariant-loop-taken
invariant-loop-taken g l = record {
  places : l.places.items ++ reverse (map (λ s. s.place) l.seats.items) ≡ l.fn.places.items;
  lines : l.lines.items ++ reverse (map (λ s. s.inbox.lines) l.seats.items) ≡ l.fn.lines.items;
  answers : l.answers.items ++ reverse (map (λ s. s.outbox.answers) l.seats.items) ≡ l.fn.answers.items;
  left : vec_len l.places + l.taken ≡ l.count;
  left_lines : vec_len l.lines ≡ vec_len l.places;
  left_answers : vec_len l.answers ≡ vec_len l.places + 1;
  room_places : vec_capacity l.places ≡ vec_capacity l.fn.places;
  room_lines : vec_capacity l.lines ≡ vec_capacity l.fn.lines;
  room_answers : vec_capacity l.answers ≡ vec_capacity l.fn.answers;
  seats : vec_len l.seats ≡ l.taken;
  room : l.count ≤ vec_capacity l.seats;
}
