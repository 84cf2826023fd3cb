use Rattle.std.proofs.Common.{[]}
use Rattle.cluster_turns.specs.CallTurns.{no_turn}
use Rattle.session_ops.proofs.Passing.{still_active}
use Rattle.session_ops.proofs.operating.pass_round.Goals as goal

pub returns-then-is_time-clause-stands : goal.returns-then-is_time-clause-stands
returns-then-is_time-clause-stands g c = let w = c.args.walker.now in let v = c.round.new.walker in let r = c.round.ensures.round in
    still_active c.args.shards.now w v c.args.place.now r.turns r.took r.others c.round.ensures.walker.0 c.round.ensures.walker.1 c.requires.active

pub returns-clause-round : goal.returns-clause-round
returns-clause-round g c = let w = c.args.walker.now in record { turns = []; took = no_turn w.clock w.passes.items; others = tt; ended = tt }
