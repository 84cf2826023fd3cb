use Rattle.std.proofs.Common.{length, Ok, Err, refl}
use Rattle.session_ops.specs.declared.settled_looking.SettleError.TheVariants.{Memory}
use Rattle.session_ops.proofs.EndSeeing.{more_settled, round_settled}
use Rattle.session_ops.proofs.settling.try_once.Goals as goal

pub returns-clause-turns : goal.returns-clause-turns
returns-clause-turns g c = let w = c.args.walker.now in let u = c.horizon_at-before.new.walker in let v = c.look_and_wait.new.walker in let n = c.args.home in let p = c.args.place.now in let count = length c.args.shards.now.locks.items in
    more_settled count w u v n p p (Err Memory) c.look_and_wait.result c.horizon_at-before.ensures.walker.0 refl
    (round_settled count w.number w.clock u.clock w.passes.items u.passes.items n p (Ok c.horizon_at-before.result) c.horizon_at-before.ensures.round) c.look_and_wait.ensures.turns
