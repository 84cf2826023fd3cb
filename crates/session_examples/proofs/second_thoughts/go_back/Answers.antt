use Rattle.session_examples.proofs.Following.{roll_later}
use Rattle.session_examples.proofs.Thinking.{roll_told, roll_goes, back_done}
use Rattle.session_examples.proofs.second_thoughts.go_back.Goals as goal

pub gone_back-requires : goal.gone_back-requires
gone_back-requires g c = let s = c.args.session.now in let z = c.roll_to-answer.new.self in
    record { made = roll_told s.shards.now s.walker z.walker s.progress z.progress s.saves.items c.args.upto c.roll_to-answer.result c.requires.open c.requires.kept c.roll_to-answer.ensures.told }

pub returns-clause-later : goal.returns-clause-later
returns-clause-later g c = let s = c.args.session.now in let z = c.roll_to-answer.new.self in
    roll_later s.shards.now s.walker z.walker s.progress z.progress s.saves.items c.args.upto c.roll_to-answer.result c.roll_to-answer.ensures.told

pub returns-clause-goes : goal.returns-clause-goes
returns-clause-goes g c = let s = c.args.session.now in let z = c.roll_to-answer.new.self in
    roll_goes s.shards.now s.walker z.walker s.progress z.progress s.saves.items c.args.upto c.roll_to-answer.result c.gone_back.result c.requires.open c.requires.kept c.roll_to-answer.ensures.told c.gone_back.ensures.told

pub returns-clause-done : goal.returns-clause-done
returns-clause-done g c = let s = c.args.session.now in let z = c.roll_to-answer.new.self in
    λ w acts. back_done s.shards.now w s.walker z.walker s.progress z.progress s.saves.items c.args.upto c.roll_to-answer.result c.gone_back.result acts c.requires.session c.requires.kept c.roll_to-answer.ensures.told c.gone_back.ensures.told
