use Rattle.std.proofs.Common.{arith, rules, ◌≡◌}
use Rattle.std.proofs.lemmas.Grind.{common_steps}
use Rattle.live_threads.proofs.Moving.{told_too, told_all}
use Rattle.live_threads.proofs.seating.leave_seats.Goals as goal

pub loop-seat-preserved-then-all : goal.loop-seat-preserved-then-all
loop-seat-preserved-then-all g c = record {
  can = search rules;
  finite = search rules;
  all = grind (arith, common_steps);
  len = grind (arith, common_steps);
  len_lines = grind (arith, common_steps);
  len_answers = grind (arith, common_steps);
  room = search rules;
  room_lines = search rules;
  room_answers = search rules;
  places = grind (arith, common_steps);
  lines = grind (arith, common_steps);
  answers = grind (arith, common_steps);
  told = λ yes k d low. told_too (λ s. s.all_told) c.loop-seat.yielded c.in-Some.seat (c.loop-seat.invariant.told c.if-all.true) yes k d low;
}

pub returns-clause-told : goal.returns-clause-told
returns-clause-told g c =
    let whole : c.loop-seat.yielded ≡ c.args.seats.items = grind (arith, common_steps) in
    λ yes k d low. told_all (λ s. s.all_told) c.loop-seat.yielded c.args.seats.items whole (c.loop-seat.invariant.told yes) k d (let ok = c.args.seats.ok in omega arith)
