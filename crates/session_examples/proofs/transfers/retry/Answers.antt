use Rattle.session_examples.proofs.Following.{retry_later}
use Rattle.session_examples.proofs.Trying.{retry_as, retried_ends, none_refused}
use Rattle.session_examples.proofs.transfers.retry.Goals as goal

pub retried-requires : goal.retried-requires
retried-requires g c = let s = c.args.session.now in let z = c.retry-answer.new.self in
    let k = none_refused s.shards.now z.walker z.progress c.retry-answer.result (retry_as s.shards.now s.walker z.walker s.progress z.progress c.retry-answer.result c.requires.ended c.retry-answer.ensures.told) in record { idle = k.0; ended = k.1 }

pub returns-clause-later : goal.returns-clause-later
returns-clause-later g c = let s = c.args.session.now in let z = c.retry-answer.new.self in
    retry_later s.shards.now s.walker z.walker s.progress z.progress c.retry-answer.result c.retry-answer.ensures.told

pub returns-clause-fresh : goal.returns-clause-fresh
returns-clause-fresh g c = let s = c.args.session.now in let z = c.retry-answer.new.self in
    (retried_ends s.shards.now z.walker z.progress c.retry-answer.result c.retried.result (retry_as s.shards.now s.walker z.walker s.progress z.progress c.retry-answer.result c.requires.ended c.retry-answer.ensures.told) c.retried.ensures).0

pub returns-clause-closed : goal.returns-clause-closed
returns-clause-closed g c = let s = c.args.session.now in let z = c.retry-answer.new.self in
    (retried_ends s.shards.now z.walker z.progress c.retry-answer.result c.retried.result (retry_as s.shards.now s.walker z.walker s.progress z.progress c.retry-answer.result c.requires.ended c.retry-answer.ensures.told) c.retried.ensures).1
