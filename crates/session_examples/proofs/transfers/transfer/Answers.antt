use Rattle.std.proofs.Common.{subst}
use Rattle.session_examples.specs.Moves.{MovesAs}
use Rattle.session_examples.proofs.Following.{later_on}
use Rattle.session_examples.proofs.Moving.{moves_on}
use Rattle.session_examples.proofs.transfers.transfer.Goals as goal

pub returns-in-Ok-clause-later : goal.returns-in-Ok-clause-later
returns-in-Ok-clause-later g c = later_on c.args.session.now.walker c.begin.new.session.walker c.run_tries.new.session.walker c.begin.ensures.later c.run_tries.ensures.later

pub returns-in-Ok-clause-moved : goal.returns-in-Ok-clause-moved
returns-in-Ok-clause-moved g c =
    let w = c.args.session.now.walker in let u = c.begin.new.session.walker in let v = c.run_tries.new.session.walker in
    subst (λ x. MovesAs x.now c.args.from c.args.to c.args.amount c.run_tries.result w v) c.begin.ensures.shards
    (moves_on c.begin.new.session.shards.now w u v c.args.from c.args.to c.args.amount c.run_tries.result c.begin.ensures.later c.run_tries.ensures.moved)
