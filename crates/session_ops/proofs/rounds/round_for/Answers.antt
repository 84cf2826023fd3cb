use Rattle.std.proofs.Common.{length}
use Rattle.session_ops.specs.Rounds.{IsEither, OwnMoved}
use Rattle.session_ops.proofs.Noting.{round_after, round_cut}
use Rattle.session_ops.proofs.rounds.round_for.Goals as goal

pub returns-in-Ok-clause-told : goal.returns-in-Ok-clause-told
returns-in-Ok-clause-told g c = let w = c.args.walker.now in let u = c.carry_and_move.new.walker in let v = c.stand_by_own.new.walker in let e = c.in-Ok.ensures in let s = c.stand_by_own.ensures in
    round_after (length c.args.shards.now.locks.items) c.args.own.now c.args.flushes.now.others c.args.flushes.now.home w.number u.number w.clock u.clock v.clock w.passes.items u.passes.items v.passes.items c.new-met.result c.carry_and_move.new.met c.stand_by_own.result e.walker.1.0 e.round s.rests s.away

pub returns-in-Err-clause-told : goal.returns-in-Err-clause-told
returns-in-Err-clause-told g c = let w = c.args.walker.now in let v = c.carry_and_move.new.walker in let own = c.args.own.now in let f = c.args.flushes.now in let count = length c.args.shards.now.locks.items in
    round_cut count own (OwnMoved f.others f.home count) (IsEither f.others f.home) w.number w.clock v.clock w.passes.items v.passes.items c.new-met.result c.carry_and_move.new.met c.in-Err.error c.in-Err.ensures.round

pub returns-in-Ok-clause-round : goal.returns-in-Ok-clause-round
returns-in-Ok-clause-round g c = (returns-in-Ok-clause-told g c).rests.round

pub returns-in-Err-clause-round : goal.returns-in-Err-clause-round
returns-in-Err-clause-round g c = (returns-in-Err-clause-told g c).rests.round
