use Rattle.clv_base.specs.declared.ops.Op.TheVariants.{Put}
use Rattle.clv_base.specs.declared.values.Value.TheVariants.{Num}
use Rattle.session_ops.specs.Parts.{value_in}
use Rattle.session_examples.proofs.Following.{point_later}
use Rattle.session_examples.proofs.Trying.{point_told, write_goes}
use Rattle.session_examples.proofs.Moving.{written_done}
use Rattle.session_examples.proofs.transfers.write.Goals as goal

pub written-requires : goal.written-requires
written-requires g c = let s = c.args.session.now in let z = c.put-answer.new.self in
    record { made = point_told s.shards.now s.walker z.walker s.progress z.progress (Put c.args.key (Num c.args.value)) c.args.key c.put-answer.result c.requires.open c.put-answer.ensures.told }

pub returns-clause-later : goal.returns-clause-later
returns-clause-later g c = let s = c.args.session.now in let z = c.put-answer.new.self in
    point_later s.shards.now value_in s.walker z.walker s.progress z.progress (Put c.args.key (Num c.args.value)) c.args.key c.put-answer.result c.requires.session c.put-answer.ensures.told

pub returns-clause-goes : goal.returns-clause-goes
returns-clause-goes g c = let s = c.args.session.now in let z = c.put-answer.new.self in
    write_goes s.shards.now s.walker z.walker s.progress z.progress c.args.key (Num c.args.value) c.put-answer.result c.written.result c.requires.open c.put-answer.ensures.told c.written.ensures.told

pub returns-clause-done : goal.returns-clause-done
returns-clause-done g c = let s = c.args.session.now in let z = c.put-answer.new.self in
    λ w acts. written_done s.shards.now w s.walker z.walker s.progress z.progress c.args.key (Num c.args.value) c.put-answer.result c.written.result acts c.requires.session c.put-answer.ensures.told c.written.ensures.told
