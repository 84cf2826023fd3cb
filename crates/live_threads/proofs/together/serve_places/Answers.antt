use Rattle.std.proofs.Common.{vec_len, arith}
use Rattle.live_threads.proofs.Serving.{nothing_done}
use Rattle.live_threads.proofs.together.serve_places.Goals as goal

-- without memory nothing was read, and nobody did anything
pub returns-in_default-clause-lived : goal.returns-in_default-clause-lived
returns-in_default-clause-lived g c =
    nothing_done g.C.SessionCalls.seen c.args.places.now.items (vec_len c.args.places.now) (λ k d low. c.requires.idle k d (let ok = c.args.places.now.ok in omega arith)) (g.S.Source.left c.args.source.now) (g.K.Sink.taken c.args.sink.now) c.read_nothing.result.read c.read_nothing.result.written
    c.read_nothing.ensures.0 c.read_nothing.ensures.1

pub returns-in_default-new-clause-lived : goal.returns-in_default-new-clause-lived
returns-in_default-new-clause-lived g c =
    nothing_done g.C.SessionCalls.seen c.args.places.now.items (vec_len c.args.places.now) (λ k d low. c.requires.idle k d (let ok = c.args.places.now.ok in omega arith)) (g.S.Source.left c.args.source.now) (g.K.Sink.taken c.args.sink.now) c.read_nothing-in_default-new.result.read c.read_nothing-in_default-new.result.written
    c.read_nothing-in_default-new.ensures.0 c.read_nothing-in_default-new.ensures.1
