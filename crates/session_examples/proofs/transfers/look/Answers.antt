use Rattle.clv_base.specs.declared.ops.Op.TheVariants.{Get}
use Rattle.session_ops.specs.Parts.{value_in}
use Rattle.session_examples.proofs.Following.{point_later}
use Rattle.session_examples.proofs.Trying.{point_told, look_goes}
use Rattle.session_examples.proofs.Moving.{value_done}
use Rattle.session_examples.proofs.transfers.look.Goals as goal

pub value_at-requires : goal.value_at-requires
value_at-requires g c = let s = c.args.session.now in let z = c.get-answer.new.self in
    record { made = point_told s.shards.now s.walker z.walker s.progress z.progress (Get c.args.key) c.args.key c.get-answer.result c.requires.open c.get-answer.ensures.told }

pub returns-clause-later : goal.returns-clause-later
returns-clause-later g c = let s = c.args.session.now in let z = c.get-answer.new.self in
    point_later s.shards.now value_in s.walker z.walker s.progress z.progress (Get c.args.key) c.args.key c.get-answer.result c.requires.session c.get-answer.ensures.told

pub returns-clause-goes : goal.returns-clause-goes
returns-clause-goes g c = let s = c.args.session.now in let z = c.get-answer.new.self in
    look_goes s.shards.now s.walker z.walker s.progress z.progress c.args.key c.get-answer.result c.value_at.result c.requires.open c.get-answer.ensures.told c.value_at.ensures.told

pub returns-clause-done : goal.returns-clause-done
returns-clause-done g c = let s = c.args.session.now in let z = c.get-answer.new.self in
    λ w acts. value_done s.shards.now w s.walker z.walker s.progress z.progress c.args.key c.get-answer.result c.value_at.result acts c.requires.session c.get-answer.ensures.told c.value_at.ensures.told
