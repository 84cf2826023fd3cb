use Rattle.std.proofs.Common.{◌==◌, sym, subst}
use Rattle.std.specs.Map.{lookup}
use Rattle.clv_base.specs.declared.events.Event.TheVariants.{Op}
use Rattle.session_ops.specs.Decided.{IsLeftOver, LeavesIf}
use Rattle.session_ops.proofs.Performing.{left_over, performed, placed, performed_stands}
use Rattle.session_ops.proofs.scanned_parts.perform.Goals as goal

pub leave_if-requires : goal.leave_if-requires
leave_if-requires g c = let u = c.operate-answer.new.walker in let m = c.operate-answer.new.place in let r = c.operate-answer.result in
    record {
      over = subst (λ b. IsLeftOver b c.args.shards.now u m) (sym c.died-over.ensures)
          (left_over c.args.shards.now u c.args.shard c.args.nth c.args.op.now c.args.place.now m r c.operate-answer.ensures.place c.operate-answer.ensures.stands);
    }

pub returns-clause-turns : goal.returns-clause-turns
returns-clause-turns g c birth is = let w = c.args.walker.now in let u = c.operate-answer.new.walker in let v = c.leave_if.new.walker in let p = c.args.place.now in let m = c.operate-answer.new.place in let q = c.leave_if.new.place in let r = c.operate-answer.result in
    performed c.args.shards.now w u v c.args.shard c.args.nth c.args.op.now p m q (Op p.tx birth c.args.nth (lookup (◌==◌ c.args.shard) p.touched) c.args.op.now) r c.operate-answer.ensures.walker.0 (c.operate-answer.ensures.turns birth is) c.operate-answer.ensures.place
    (subst (λ b. LeavesIf b c.args.shards.now u m c.args.shard v q) c.died-over.ensures c.leave_if.ensures.drops)

pub returns-clause-place : goal.returns-clause-place
returns-clause-place g c = let u = c.operate-answer.new.walker in let v = c.leave_if.new.walker in let p = c.args.place.now in let m = c.operate-answer.new.place in let q = c.leave_if.new.place in let r = c.operate-answer.result in
    placed c.args.shards.now u v c.args.shard c.args.nth c.args.op.now p m q r c.operate-answer.ensures.place (subst (λ b. LeavesIf b c.args.shards.now u m c.args.shard v q) c.died-over.ensures c.leave_if.ensures.drops)

pub returns-clause-stands : goal.returns-clause-stands
returns-clause-stands g c = let u = c.operate-answer.new.walker in let v = c.leave_if.new.walker in let m = c.operate-answer.new.place in let q = c.leave_if.new.place in let r = c.operate-answer.result in
    performed_stands c.args.shards.now u v c.args.shard m q r c.operate-answer.ensures.stands (subst (λ b. LeavesIf b c.args.shards.now u m c.args.shard v q) c.died-over.ensures c.leave_if.ensures.drops)
