use Rattle.std.proofs.Common.{refl, sym, subst, arith}
use Rattle.clv_base.specs.Logs.{standing}
use Rattle.clv_base.specs.Undo.{is_of}
use Rattle.cascade_undo.specs.Steps.{AreBelow}
use Rattle.cascade_undo.proofs.Splitting.{none_of, split_at}
use Rattle.cascade_undo.proofs.Newest.{below_end}
use Rattle.cascade_undo.proofs.Stepping.{as_standing, has_room, writes_step, below_step}
use Rattle.cascade_undo.proofs.Growing.{advances_none, advances_more, log_at_last, room_at_last}
use Rattle.cascade_undo.proofs.compensating.compensate.Goals as goal

pub loop-write-init : goal.loop-write-init
loop-write-init c = record {
  advances = advances_none (is_of c.args.set.now) c.args.buffer.now;
  below = subst (λ n. AreBelow c.args.set.now n (standing c.args.buffer.now.records)) (sym c.end-below.ensures.end) (below_end c.args.set.now c.args.buffer.now.records);
  room = c.requires.room;
}

pub append_clr-requires : goal.append_clr-requires
append_clr-requires c =
    let some = has_room (is_of c.args.set.now) c.loop-write.buffer.records c.in-Some.write (split_at c.args.set.now (standing c.loop-write.buffer.records) (as_standing c.in-Some.write) c.in-Some.ensures.newest) in
    let most = c.loop-write.invariant.room in
    omega (arith, some, most)

pub loop-write-smaller : goal.loop-write-smaller
loop-write-smaller c =
    let one = writes_step (is_of c.args.set.now) c.loop-write.buffer.records c.in-Some.write (split_at c.args.set.now (standing c.loop-write.buffer.records) (as_standing c.in-Some.write) c.in-Some.ensures.newest) c.append_clr.new.buffer.records c.append_clr.ensures.log in
    omega (arith, one)

pub loop-write-preserved : goal.loop-write-preserved
loop-write-preserved c =
    let set = c.args.set.now in let w = c.in-Some.write in let newest = c.in-Some.ensures.newest in
    let b = c.loop-write.buffer in let d = c.append_clr.new.buffer in let grown = c.append_clr.ensures.log in
    let parts = split_at set (standing b.records) (as_standing w) newest in
    let one = writes_step (is_of set) b.records w parts d.records grown in let most = c.loop-write.invariant.room in let less = c.append_clr.ensures.room in
    record {
      advances = advances_more (is_of set) c.args.buffer.now b d w parts c.loop-write.invariant.advances grown c.append_clr.ensures.fronts less;
      below = below_step set b.records w newest d.records grown;
      room = omega (arith, one, most, less);
    }

pub returns-clause-log : goal.returns-clause-log
returns-clause-log c = log_at_last (is_of c.args.set.now) c.args.buffer.now c.loop-write.buffer c.loop-write.invariant.advances (none_of c.args.set.now (standing c.loop-write.buffer.records) (c.in_default.ensures.none refl))

pub returns-clause-room : goal.returns-clause-room
returns-clause-room c = room_at_last (is_of c.args.set.now) c.args.buffer.now c.loop-write.buffer c.loop-write.invariant.advances (none_of c.args.set.now (standing c.loop-write.buffer.records) (c.in_default.ensures.none refl))
