use Rattle.std.proofs.Common.{arith, ◌≡◌, ◌∙◌, ap, vec_len, IfErr}
use Rattle.std.specs.Result.{is_ok}
use Rattle.script_runs.specs.Seen.{Keeps}
use Rattle.live_threads.proofs.Serving.{nothing_done, as_many_back, all_ready, told_of_places, counts, pairs_of_lines, pairs_of_answers, lived_behind}
use Rattle.live_threads.proofs.together.serve_on.Goals as goal

-- nothing was read, and nobody did anything
pub returns-in_default-clause-lived : goal.returns-in_default-clause-lived
returns-in_default-clause-lived g c =
    nothing_done g.C.SessionCalls.seen c.args.places.now.items (vec_len c.args.places.now) (λ k d low. c.requires.idle k d (let ok = c.args.places.now.ok in omega arith)) (g.S.Source.left c.args.source.now) (g.K.Sink.taken c.args.sink.now) c.read_nothing.result.read c.read_nothing.result.written
    c.read_nothing.ensures.0 c.read_nothing.ensures.1

pub run_threads-read-requires-clause-ready : goal.run_threads-read-requires-clause-ready
run_threads-read-requires-clause-ready g c κs within =
    all_ready g.C.SessionCalls.seen g.C.SessionCalls.holds g.C.SessionCalls.base g.C.SessionCalls.missed g.C.SessionCalls.grounds (vec_len c.args.places.now) c.sit-seats.result.seats.len c.args.places.now.items c.sit-seats.result.seats.items c.as_mut_slice.result.now c.as_mut_slice.result.now c.sit-seats.ensures.places (let ok = c.args.places.now.ok in omega arith) (let ok = c.sit-seats.result.seats.ok in omega arith) c.as_mut_slice.ensures.value (omega arith) c.requires.session c.requires.idle

pub rise-lines_done-requires-clause-count : goal.rise-lines_done-requires-clause-count
rise-lines_done-requires-clause-count g c =
    let n = counts g.C.SessionCalls.seen g.C.SessionCalls.holds g.C.SessionCalls.base g.C.SessionCalls.missed g.C.SessionCalls.grounds (vec_len c.args.places.now) c.sit-seats.result.seats.len c.args.places.now.items c.sit-seats.result.seats.items c.as_mut_slice.result.now c.run_threads-read.new.seats c.sit-seats.ensures.places (let ok = c.args.places.now.ok in omega arith) (let ok = c.sit-seats.result.seats.ok in omega arith) c.as_mut_slice.ensures.value (let many = c.run_threads-read.auto.seats in omega arith) c.run_threads-read.ensures.sat
    c.sit-seats.result.reader.lines.items c.run_threads-read.new.reader.lines.items c.sit-seats.result.reader.own.answers c.run_threads-read.new.reader.own.answers c.sit-seats.result.answers.items c.run_threads-read.new.answers.items
    c.sit-seats.ensures.lines c.sit-seats.ensures.answers (g.S.Source.left c.args.source.now) (g.S.Source.left c.run_threads-read.new.source) (g.K.Sink.taken c.args.sink.now) (g.K.Sink.taken c.run_threads-read.new.sink)
    c.run_threads-read.result.0 c.run_threads-read.result.1 c.run_threads-read.ensures.read c.run_threads-read.ensures.took in
    let ok = c.run_threads-read.new.reader.lines.ok in
    let ok' = c.run_threads-read.new.answers.ok in
    (omega (arith, n.0, ok), omega (arith, n.1, ok'))

pub rise-lines_done-requires-clause-lines : goal.rise-lines_done-requires-clause-lines
rise-lines_done-requires-clause-lines g c =
    pairs_of_lines g.C.SessionCalls.seen g.C.SessionCalls.holds g.C.SessionCalls.base g.C.SessionCalls.missed g.C.SessionCalls.grounds (vec_len c.args.places.now) c.sit-seats.result.seats.len c.args.places.now.items c.sit-seats.result.seats.items c.as_mut_slice.result.now c.run_threads-read.new.seats c.sit-seats.ensures.places (let ok = c.args.places.now.ok in omega arith) (let ok = c.sit-seats.result.seats.ok in omega arith) c.as_mut_slice.ensures.value (let many = c.run_threads-read.auto.seats in omega arith) c.run_threads-read.ensures.sat
    c.sit-seats.result.reader.lines.items c.run_threads-read.new.reader.lines.items c.sit-seats.result.reader.own.answers c.run_threads-read.new.reader.own.answers c.sit-seats.result.answers.items c.run_threads-read.new.answers.items
    c.sit-seats.ensures.lines c.sit-seats.ensures.answers (g.S.Source.left c.args.source.now) (g.S.Source.left c.run_threads-read.new.source) (g.K.Sink.taken c.args.sink.now) (g.K.Sink.taken c.run_threads-read.new.sink)
    c.run_threads-read.result.0 c.run_threads-read.result.1 c.run_threads-read.ensures.read c.run_threads-read.ensures.took

pub rise-lines_done-requires-clause-answers : goal.rise-lines_done-requires-clause-answers
rise-lines_done-requires-clause-answers g c =
    pairs_of_answers g.C.SessionCalls.seen g.C.SessionCalls.holds g.C.SessionCalls.base g.C.SessionCalls.missed g.C.SessionCalls.grounds (vec_len c.args.places.now) c.sit-seats.result.seats.len c.args.places.now.items c.sit-seats.result.seats.items c.as_mut_slice.result.now c.run_threads-read.new.seats c.sit-seats.ensures.places (let ok = c.args.places.now.ok in omega arith) (let ok = c.sit-seats.result.seats.ok in omega arith) c.as_mut_slice.ensures.value (let many = c.run_threads-read.auto.seats in omega arith) c.run_threads-read.ensures.sat
    c.sit-seats.result.reader.lines.items c.run_threads-read.new.reader.lines.items c.sit-seats.result.reader.own.answers c.run_threads-read.new.reader.own.answers c.sit-seats.result.answers.items c.run_threads-read.new.answers.items
    c.sit-seats.ensures.lines c.sit-seats.ensures.answers (g.S.Source.left c.args.source.now) (g.S.Source.left c.run_threads-read.new.source) (g.K.Sink.taken c.args.sink.now) (g.K.Sink.taken c.run_threads-read.new.sink)
    c.run_threads-read.result.0 c.run_threads-read.result.1 c.run_threads-read.ensures.read c.run_threads-read.ensures.took

pub returns-clause-len : goal.returns-clause-len
returns-clause-len g c =
    let rise = c.rise-lines_done in
    let many = as_many_back g.C.SessionCalls.seen g.C.SessionCalls.holds g.C.SessionCalls.base g.C.SessionCalls.missed g.C.SessionCalls.grounds (vec_len c.args.places.now) c.sit-seats.result.seats.len c.args.places.now.items c.sit-seats.result.seats.items c.as_mut_slice.result.now c.run_threads-read.new.seats c.sit-seats.ensures.places (let ok = c.args.places.now.ok in omega arith) (let ok = c.sit-seats.result.seats.ok in omega arith) c.as_mut_slice.ensures.value (let many = c.run_threads-read.auto.seats in omega arith) rise.new.places.items rise.ensures.places in
    let ok = rise.new.places.ok in
    (omega (arith, many, ok), rise.ensures.room ∙ c.sit-seats.ensures.room.0)

pub returns-clause-session : goal.returns-clause-session
returns-clause-session g c =
    told_of_places g.C.SessionCalls.seen g.C.SessionCalls.holds g.C.SessionCalls.base g.C.SessionCalls.missed g.C.SessionCalls.grounds (vec_len c.args.places.now) c.sit-seats.result.seats.len c.args.places.now.items c.sit-seats.result.seats.items c.as_mut_slice.result.now c.run_threads-read.new.seats c.sit-seats.ensures.places (let ok = c.args.places.now.ok in omega arith) (let ok = c.sit-seats.result.seats.ok in omega arith) c.as_mut_slice.ensures.value (let many = c.run_threads-read.auto.seats in omega arith) c.run_threads-read.ensures.sat
    (λ p q. g.C.SessionCalls.holds q.session) (λ s t h. h.session) c.rise-lines_done.new.places.items c.rise-lines_done.ensures.places

pub returns-clause-base : goal.returns-clause-base
returns-clause-base g c =
    told_of_places g.C.SessionCalls.seen g.C.SessionCalls.holds g.C.SessionCalls.base g.C.SessionCalls.missed g.C.SessionCalls.grounds (vec_len c.args.places.now) c.sit-seats.result.seats.len c.args.places.now.items c.sit-seats.result.seats.items c.as_mut_slice.result.now c.run_threads-read.new.seats c.sit-seats.ensures.places (let ok = c.args.places.now.ok in omega arith) (let ok = c.sit-seats.result.seats.ok in omega arith) c.as_mut_slice.ensures.value (let many = c.run_threads-read.auto.seats in omega arith) c.run_threads-read.ensures.sat
    (λ p q. g.C.SessionCalls.base q.session ≡ g.C.SessionCalls.base p.session) (λ s t h. h.base_is) c.rise-lines_done.new.places.items c.rise-lines_done.ensures.places

pub returns-clause-misses : goal.returns-clause-misses
returns-clause-misses g c =
    told_of_places g.C.SessionCalls.seen g.C.SessionCalls.holds g.C.SessionCalls.base g.C.SessionCalls.missed g.C.SessionCalls.grounds (vec_len c.args.places.now) c.sit-seats.result.seats.len c.args.places.now.items c.sit-seats.result.seats.items c.as_mut_slice.result.now c.run_threads-read.new.seats c.sit-seats.ensures.places (let ok = c.args.places.now.ok in omega arith) (let ok = c.sit-seats.result.seats.ok in omega arith) c.as_mut_slice.ensures.value (let many = c.run_threads-read.auto.seats in omega arith) c.run_threads-read.ensures.sat
    (λ p q. Keeps (g.C.SessionCalls.missed p.session) (g.C.SessionCalls.missed q.session)) (λ s t h. h.misses) c.rise-lines_done.new.places.items c.rise-lines_done.ensures.places

pub returns-clause-grounds : goal.returns-clause-grounds
returns-clause-grounds g c =
    told_of_places g.C.SessionCalls.seen g.C.SessionCalls.holds g.C.SessionCalls.base g.C.SessionCalls.missed g.C.SessionCalls.grounds (vec_len c.args.places.now) c.sit-seats.result.seats.len c.args.places.now.items c.sit-seats.result.seats.items c.as_mut_slice.result.now c.run_threads-read.new.seats c.sit-seats.ensures.places (let ok = c.args.places.now.ok in omega arith) (let ok = c.sit-seats.result.seats.ok in omega arith) c.as_mut_slice.ensures.value (let many = c.run_threads-read.auto.seats in omega arith) c.run_threads-read.ensures.sat
    (λ p q. IfErr q.ended (g.C.SessionCalls.grounds q.session)) (λ s t h. h.stopped) c.rise-lines_done.new.places.items c.rise-lines_done.ensures.places

pub returns-clause-lived : goal.returns-clause-lived
returns-clause-lived g c =
    let rise = c.rise-lines_done in
    lived_behind g.C.SessionCalls.seen g.C.SessionCalls.holds g.C.SessionCalls.base g.C.SessionCalls.missed g.C.SessionCalls.grounds (vec_len c.args.places.now) c.sit-seats.result.seats.len c.args.places.now.items c.sit-seats.result.seats.items c.as_mut_slice.result.now c.run_threads-read.new.seats c.sit-seats.ensures.places (let ok = c.args.places.now.ok in omega arith) (let ok = c.sit-seats.result.seats.ok in omega arith) c.as_mut_slice.ensures.value (let many = c.run_threads-read.auto.seats in omega arith) c.run_threads-read.ensures.sat
    c.sit-seats.result.reader.lines.items c.run_threads-read.new.reader.lines.items c.sit-seats.result.reader.own.answers c.run_threads-read.new.reader.own.answers c.sit-seats.result.answers.items c.run_threads-read.new.answers.items
    c.sit-seats.ensures.lines c.sit-seats.ensures.answers (g.S.Source.left c.args.source.now) (g.S.Source.left c.run_threads-read.new.source) (g.K.Sink.taken c.args.sink.now) (g.K.Sink.taken c.run_threads-read.new.sink)
    c.run_threads-read.result.0 c.run_threads-read.result.1 c.run_threads-read.ensures.read c.run_threads-read.ensures.took
    rise.new.places.items rise.ensures.places c.read_as.result c.written_as-written.result rise.result.lines_done rise.result.answers_done rise.result.all_told c.is_ok.result
    rise.ensures.lines rise.ensures.answers rise.ensures.all_lines rise.ensures.all_answers rise.ensures.told c.written_as-written.ensures.as_ c.read_as.ensures.whole
    (λ fine. c.is_ok.ensures.value ∙ ap is_ok fine)

pub returns-clause-source : goal.returns-clause-source
returns-clause-source g c = c.read_as.ensures.cause (g.S.Source.faults c.args.source.now) (g.S.Source.faults c.run_threads-read.new.source) c.run_threads-read.ensures.source
