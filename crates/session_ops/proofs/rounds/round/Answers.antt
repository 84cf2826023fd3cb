use Rattle.std.proofs.Common.{length}
use Rattle.session_ops.specs.Rounds.{AllMoved, Every}
use Rattle.session_ops.proofs.Noting.{round_ends, round_cut}
use Rattle.session_ops.proofs.rounds.round.Goals as goal

pub returns-in-Ok-clause-told : goal.returns-in-Ok-clause-told
returns-in-Ok-clause-told g c = let w = c.args.walker.now in let v = c.move_and_ask.new.walker in
    round_ends (length c.args.shards.now.locks.items) c.args.own.now w.number w.clock v.clock w.passes.items v.passes.items c.new-met.result c.move_and_ask.new.met c.end.result c.new-met.ensures.none c.in-Ok.ensures.round c.end.ensures.ended

pub returns-in-Err-clause-told : goal.returns-in-Err-clause-told
returns-in-Err-clause-told g c = let w = c.args.walker.now in let v = c.move_and_ask.new.walker in let count = length c.args.shards.now.locks.items in
    round_cut count c.args.own.now (AllMoved count) Every w.number w.clock v.clock w.passes.items v.passes.items c.new-met.result c.move_and_ask.new.met c.in-Err.error c.in-Err.ensures.round

pub returns-in-Ok-clause-round : goal.returns-in-Ok-clause-round
returns-in-Ok-clause-round g c = (returns-in-Ok-clause-told g c).rests.round

pub returns-in-Err-clause-round : goal.returns-in-Err-clause-round
returns-in-Err-clause-round g c = (returns-in-Err-clause-told g c).rests.round
