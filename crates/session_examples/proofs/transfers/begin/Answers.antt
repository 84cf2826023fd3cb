use Rattle.session_examples.proofs.Following.{begin_later}
use Rattle.session_examples.proofs.Trying.{begin_as, begun_ends, none_active}
use Rattle.session_examples.proofs.transfers.begin.Goals as goal

pub begun-requires : goal.begun-requires
begun-requires g c = let s = c.args.session.now in let z = c.begin-answer.new.self in
    record { idle = none_active s.shards.now z.walker z.progress c.begin-answer.result (begin_as s.shards.now s.walker z.walker s.progress z.progress c.begin-answer.result c.requires.idle c.begin-answer.ensures.told) }

pub returns-clause-later : goal.returns-clause-later
returns-clause-later g c = let s = c.args.session.now in let z = c.begin-answer.new.self in
    begin_later s.shards.now s.walker z.walker s.progress z.progress c.begin-answer.result c.begin-answer.ensures.told

pub returns-clause-fresh : goal.returns-clause-fresh
returns-clause-fresh g c = let s = c.args.session.now in let z = c.begin-answer.new.self in
    (begun_ends s.shards.now z.walker z.progress c.begin-answer.result c.begun.result (begin_as s.shards.now s.walker z.walker s.progress z.progress c.begin-answer.result c.requires.idle c.begin-answer.ensures.told) c.begun.ensures).0

pub returns-clause-closed : goal.returns-clause-closed
returns-clause-closed g c = let s = c.args.session.now in let z = c.begin-answer.new.self in
    (begun_ends s.shards.now z.walker z.progress c.begin-answer.result c.begun.result (begin_as s.shards.now s.walker z.walker s.progress z.progress c.begin-answer.result c.requires.idle c.begin-answer.ensures.told) c.begun.ensures).1
