use Rattle.session_examples.proofs.Following.{commit_later}
use Rattle.session_examples.proofs.Trying.{commit_answered, commit_tried}
use Rattle.session_examples.proofs.Moving.{settled_done}
use Rattle.session_examples.proofs.transfers.commit.Goals as goal

pub settled-requires : goal.settled-requires
settled-requires g c = let s = c.args.session.now in let z = c.commit-answer.new.self in
    record { made = commit_answered s.shards.now s.walker z.walker s.progress z.progress c.commit-answer.result c.requires.open c.commit-answer.ensures.told }

pub returns-clause-later : goal.returns-clause-later
returns-clause-later g c = let s = c.args.session.now in let z = c.commit-answer.new.self in
    commit_later s.shards.now s.walker z.walker s.progress z.progress c.commit-answer.result c.commit-answer.ensures.told

pub returns-clause-tried : goal.returns-clause-tried
returns-clause-tried g c = let s = c.args.session.now in let z = c.commit-answer.new.self in
    commit_tried s.shards.now s.walker z.walker s.progress z.progress c.commit-answer.result c.settled.result c.requires.open c.commit-answer.ensures.told c.settled.ensures.told

pub returns-clause-done : goal.returns-clause-done
returns-clause-done g c = let s = c.args.session.now in let z = c.commit-answer.new.self in
    λ w acts. settled_done s.shards.now w s.walker z.walker s.progress z.progress c.commit-answer.result c.settled.result acts c.requires.session c.commit-answer.ensures.told c.settled.ensures.told
