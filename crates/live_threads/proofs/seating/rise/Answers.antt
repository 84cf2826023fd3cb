use Rattle.std.proofs.Common.{arith, refl, ◌∙◌, ◌+◌, ◌++◌, ◌∷◌, [], ap, length, map, vec_len}
use Rattle.std.proofs.lemmas.List.{length-map}
use Rattle.live_threads.proofs.Looking.{pairs_of, fronts_of, taken_of}
use Rattle.live_threads.proofs.seating.rise.Goals as goal

pub all_taken-lines_done-requires-clause-pairs : goal.all_taken-lines_done-requires-clause-pairs
all_taken-lines_done-requires-clause-pairs g c =
    let left = c.leave_seats-all_told in
    let is = left.ensures.lines in
    let ok = left.new.lines.ok in let ok' = c.args.desk.seats.ok in let m = length-map c.args.desk.seats.items (λ s. s.inbox.lines) in let long = ap length is in
    pairs_of (vec_len c.args.desk.seats) (vec_len left.new.lines) c.args.desk.reader.lines.items c.args.desk.reader.lines.items left.new.lines.items (map (λ s. s.inbox.lines) c.args.desk.seats.items) refl is (omega arith) c.requires.lines

pub all_taken-answers_done-requires-clause-pairs : goal.all_taken-answers_done-requires-clause-pairs
all_taken-answers_done-requires-clause-pairs g c =
    let left = c.leave_seats-all_told in
    let own = c.args.desk.reader.own.answers in
    let is = left.ensures.answers ∙ ap (λ l. l ++ map (λ s. s.outbox.answers) c.args.desk.seats.items) (c.push_reserved.ensures.items ∙ ap (λ l. l ++ own ∷ []) c.requires.empty.2) in
    pairs_of (vec_len c.args.desk.seats + 1) (vec_len c.args.desk.answers) left.new.answers.items (own ∷ map (λ s. s.outbox.answers) c.args.desk.seats.items) c.args.desk.answers.items c.args.desk.answers.items is refl c.requires.count.1 c.requires.answers

pub returns-clause-lines : goal.returns-clause-lines
returns-clause-lines g c =
    let left = c.leave_seats-all_told in
    let is = left.ensures.lines in
    let ok = left.new.lines.ok in let ok' = c.args.desk.seats.ok in let m = length-map c.args.desk.seats.items (λ s. s.inbox.lines) in let long = ap length is in
    let count = c.requires.count.0 in let ok'' = c.args.desk.reader.lines.ok in
    let all = c.all_taken-lines_done in
    fronts_of (vec_len c.args.desk.seats) (vec_len left.new.lines) c.args.desk.reader.lines.items c.args.desk.reader.lines.items left.new.lines.items (map (λ s. s.inbox.lines) c.args.desk.seats.items) refl is (omega arith)
    all.new.makers.items all.new.takers.items all.ensures.makers all.ensures.takers (omega arith) (omega arith) all.ensures.fronts

pub returns-clause-all_lines : goal.returns-clause-all_lines
returns-clause-all_lines g c =
    let left = c.leave_seats-all_told in
    let is = left.ensures.lines in
    let ok = left.new.lines.ok in let ok' = c.args.desk.seats.ok in let m = length-map c.args.desk.seats.items (λ s. s.inbox.lines) in let long = ap length is in
    let count = c.requires.count.0 in let ok'' = c.args.desk.reader.lines.ok in
    let all = c.all_taken-lines_done in
    λ yes. taken_of (vec_len c.args.desk.seats) (vec_len left.new.lines) c.args.desk.reader.lines.items c.args.desk.reader.lines.items left.new.lines.items (map (λ s. s.inbox.lines) c.args.desk.seats.items) refl is (omega arith)
    all.new.makers.items all.new.takers.items all.ensures.makers all.ensures.takers (omega arith) (omega arith) (all.ensures.value.0 yes)

pub returns-clause-answers : goal.returns-clause-answers
returns-clause-answers g c =
    let left = c.leave_seats-all_told in
    let own = c.args.desk.reader.own.answers in
    let is = left.ensures.answers ∙ ap (λ l. l ++ map (λ s. s.outbox.answers) c.args.desk.seats.items) (c.push_reserved.ensures.items ∙ ap (λ l. l ++ own ∷ []) c.requires.empty.2) in
    let ok' = c.args.desk.seats.ok in let m = length-map c.args.desk.seats.items (λ s. s.outbox.answers) in let long = ap length is in let count = c.requires.count.1 in let ok = c.args.desk.answers.ok in
    let all = c.all_taken-answers_done in
    fronts_of (vec_len c.args.desk.seats + 1) (vec_len c.args.desk.answers) left.new.answers.items (own ∷ map (λ s. s.outbox.answers) c.args.desk.seats.items) c.args.desk.answers.items c.args.desk.answers.items is refl c.requires.count.1
    all.new.makers.items all.new.takers.items all.ensures.makers all.ensures.takers (omega arith) (omega arith) all.ensures.fronts

pub returns-clause-all_answers : goal.returns-clause-all_answers
returns-clause-all_answers g c =
    let left = c.leave_seats-all_told in
    let own = c.args.desk.reader.own.answers in
    let is = left.ensures.answers ∙ ap (λ l. l ++ map (λ s. s.outbox.answers) c.args.desk.seats.items) (c.push_reserved.ensures.items ∙ ap (λ l. l ++ own ∷ []) c.requires.empty.2) in
    let ok' = c.args.desk.seats.ok in let m = length-map c.args.desk.seats.items (λ s. s.outbox.answers) in let long = ap length is in let count = c.requires.count.1 in let ok = c.args.desk.answers.ok in
    let all = c.all_taken-answers_done in
    λ yes. taken_of (vec_len c.args.desk.seats + 1) (vec_len c.args.desk.answers) left.new.answers.items (own ∷ map (λ s. s.outbox.answers) c.args.desk.seats.items) c.args.desk.answers.items c.args.desk.answers.items is refl c.requires.count.1
    all.new.makers.items all.new.takers.items all.ensures.makers all.ensures.takers (omega arith) (omega arith) (all.ensures.value.0 yes)
