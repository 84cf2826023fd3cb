use Rattle.std.proofs.Common.{length}
use Rattle.session_ops.proofs.Deciding.{leaving, left_as_over}
use Rattle.session_ops.proofs.ended_leaving.leave_others.Goals as goal

pub returns-clause-drops : goal.returns-clause-drops
returns-clause-drops g c = let w = c.args.walker.now in let v = c.drop_parts-worn.new.walker in let p = c.args.place.now in
    leaving {A = Unit {0}} (length c.args.shards.now.locks.items) w.number w.clock v.clock w.passes.items v.passes.items p.tx p.touched c.args.home c.drop_parts-worn.result c.drop_parts-worn.ensures.drops

pub returns-clause-place : goal.returns-clause-place
returns-clause-place g c = left_as_over c.args.place.now c.drop_parts-worn.new.place c.requires.over c.drop_parts-worn.ensures.place
