use Rattle.std.proofs.Common.{arith, ◌∙◌, ◌+◌, ◌++◌, sym, ap, subst, map, vec_len}
use Rattle.std.specs.Prelude.{option_to_list}
use Rattle.live_streams.specs.Rings.{AreNew}
use Rattle.live_threads.proofs.Moving.{own_first}
use Rattle.live_threads.proofs.seating.sit.Goals as goal

pub returns-clause-lines : goal.returns-clause-lines
returns-clause-lines g c =
    subst (λ l. AreNew (vec_len c.args.places.now) c.args.ends.line_makers.items l) (sym c.take_seats-seats.ensures.lines) c.requires.lines

pub returns-clause-answers : goal.returns-clause-answers
returns-clause-answers g c =
    let ok = c.take_seats-seats.new.answers.ok in
    let one = c.take_seats-seats.ensures.empty.2 in
    let split = c.pop.ensures.items ∙ ap (λ o. c.pop.new.self.items ++ option_to_list o) c.unwrap-first.ensures in
    subst (λ l. AreNew (vec_len c.args.places.now + 1) l c.args.ends.answer_takers.items)
    (sym (own_first c.take_seats-seats.new.answers.items c.pop.new.self.items c.unwrap-first.result (map (λ s. s.outbox.answers) c.take_seats-seats.result.items) c.args.ends.answer_makers.items (omega arith) split c.take_seats-seats.ensures.answers).0)
    c.requires.answers
