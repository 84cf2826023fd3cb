use Rattle.std.proofs.Common.{arith, refl, ◌≡◌, ◌++◌, sym, subst, map, reverse}
use Rattle.live_threads.proofs.Moving.{moved, rest_of_it, all_of_it, none_at_all}
use Rattle.live_threads.proofs.seating.take_seats.Goals as goal

pub loop-taken-preserved : goal.loop-taken-preserved
loop-taken-preserved g c =
    let inv = c.loop-taken.invariant in
    let e = c.take_seat-seat.ensures in
    let s = c.take_seat-seat.result in
    let now = c.take_seat-seat.new in
    let test = c.loop-taken-test.true in
    let pushed = c.push_reserved.ensures.len in
    let wide = c.push_reserved.ensures.capacity in
    record {
      places = subst (λ l. now.places.items ++ reverse (map (λ x. x.place) l) ≡ c.args.places.now.items) (sym c.push_reserved.ensures.items)
          (moved (λ x. x.place) now.places.items c.args.places.now.items s.place c.loop-taken.places.items c.loop-taken.seats.items s inv.places e.place refl);
      lines = subst (λ l. now.lines.items ++ reverse (map (λ x. x.inbox.lines) l) ≡ c.args.lines.now.items) (sym c.push_reserved.ensures.items)
          (moved (λ x. x.inbox.lines) now.lines.items c.args.lines.now.items s.inbox.lines c.loop-taken.lines.items c.loop-taken.seats.items s inv.lines e.line refl);
      answers = subst (λ l. now.answers.items ++ reverse (map (λ x. x.outbox.answers) l) ≡ c.args.answers.now.items) (sym c.push_reserved.ensures.items)
          (moved (λ x. x.outbox.answers) now.answers.items c.args.answers.now.items s.outbox.answers c.loop-taken.answers.items c.loop-taken.seats.items s inv.answers e.answer refl);
      left = (let l = e.left.0 in let i = inv.left in omega arith);
      left_lines = (let l = e.left.0 in let m = e.left.1 in let i = inv.left_lines in omega arith);
      left_answers = (let l = e.left.0 in let m = e.left.2 in let i = inv.left_answers in omega arith);
      room_places = (let r = e.room.0 in let i = inv.room_places in omega arith);
      room_lines = (let r = e.room.1 in let i = inv.room_lines in omega arith);
      room_answers = (let r = e.room.2 in let i = inv.room_answers in omega arith);
      seats = (let i = inv.seats in omega arith);
      room = (let i = inv.room in omega arith);
    }

pub returns-clause-places : goal.returns-clause-places
returns-clause-places g c =
    let inv = c.loop-taken.invariant in let out = c.loop-taken-test.false in let ok = c.loop-taken.places.ok in let left = inv.left in
    all_of_it (λ s. s.place) c.loop-taken.places.items c.args.places.now.items c.loop-taken.seats.items _ (none_at_all c.loop-taken.places.items (omega arith)) c.reverse.ensures.items inv.places

pub returns-clause-lines : goal.returns-clause-lines
returns-clause-lines g c =
    let inv = c.loop-taken.invariant in let out = c.loop-taken-test.false in let ok = c.loop-taken.lines.ok in let left = inv.left in let too = inv.left_lines in
    all_of_it (λ s. s.inbox.lines) c.loop-taken.lines.items c.args.lines.now.items c.loop-taken.seats.items _ (none_at_all c.loop-taken.lines.items (omega arith)) c.reverse.ensures.items inv.lines

pub returns-clause-answers : goal.returns-clause-answers
returns-clause-answers g c = let inv = c.loop-taken.invariant in rest_of_it (λ s. s.outbox.answers) c.loop-taken.answers.items c.args.answers.now.items c.loop-taken.seats.items _ c.reverse.ensures.items inv.answers

pub returns-clause-empty : goal.returns-clause-empty
returns-clause-empty g c =
    let inv = c.loop-taken.invariant in let out = c.loop-taken-test.false in let ok = c.loop-taken.places.ok in let ok' = c.loop-taken.lines.ok in let left = inv.left in let too = inv.left_lines in let three = inv.left_answers in
    (none_at_all c.loop-taken.places.items (omega arith), none_at_all c.loop-taken.lines.items (omega arith), omega arith)
