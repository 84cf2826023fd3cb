use Rattle.session_examples.proofs.Following.{abort_later}
use Rattle.session_examples.proofs.Trying.{abort_closed, ends_aborted}
use Rattle.session_examples.proofs.transfers.abort.Goals as goal

pub returns-clause-later : goal.returns-clause-later
returns-clause-later g c = let s = c.args.session.now in let z = c.abort-answer.new.self in
    abort_later s.shards.now s.walker z.walker s.progress z.progress c.abort-answer.result c.abort-answer.ensures.told

pub returns-clause-closed : goal.returns-clause-closed
returns-clause-closed g c = let s = c.args.session.now in let z = c.abort-answer.new.self in
    abort_closed s.shards.now s.walker z.walker s.progress z.progress c.abort-answer.result c.abort-answer.ensures.told

pub returns-clause-ended : goal.returns-clause-ended
returns-clause-ended g c = let s = c.args.session.now in let z = c.abort-answer.new.self in
    ends_aborted s.shards.now s.walker z.walker s.progress z.progress c.abort-answer.result c.aborted.result c.abort-answer.ensures.told c.aborted.ensures
