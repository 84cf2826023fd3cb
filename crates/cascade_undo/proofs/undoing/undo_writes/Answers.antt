use Rattle.std.proofs.Common.{refl, sym, subst, arith}
use Rattle.clv_base.specs.Logs.{standing}
use Rattle.clv_base.specs.Undo.{is_of, records_without}
use Rattle.ordered_store.proofs.Laws.{rises_from}
use Rattle.cascade_undo.specs.Steps.{AreBelow}
use Rattle.cascade_undo.proofs.Splitting.{none_of, split_at}
use Rattle.cascade_undo.proofs.Newest.{below_end}
use Rattle.cascade_undo.proofs.Stepping.{as_standing, key_there, has_room, writes_step, records_step, there_step, below_step}
use Rattle.cascade_undo.proofs.Growing.{advances_none, advances_more, log_at_last, records_at_last, length_at_last, room_at_last}
use Rattle.cascade_undo.proofs.undoing.undo_writes.Goals as goal

pub loop-write-init : goal.loop-write-init
loop-write-init g c = record {
  advances = advances_none (is_of c.args.set.now) c.args.buffer.now;
  records = refl;
  below = subst (λ n. AreBelow c.args.set.now n (standing c.args.buffer.now.records)) (sym c.end-end.ensures.end) (below_end c.args.set.now c.args.buffer.now.records);
  there = c.requires.there;
  room = c.requires.room;
  store_room = omega arith;
}

pub undo_write-requires-clause-there : goal.undo_write-requires-clause-there
undo_write-requires-clause-there g c =
    key_there (is_of c.args.set.now) c.loop-write.buffer.records c.in-Some.write (split_at c.args.set.now (standing c.loop-write.buffer.records) (as_standing c.in-Some.write) c.in-Some.ensures.newest) (g.S.Store.records c.loop-write.store) c.loop-write.invariant.there

pub undo_write-requires-clause-room : goal.undo_write-requires-clause-room
undo_write-requires-clause-room g c =
    let some = has_room (is_of c.args.set.now) c.loop-write.buffer.records c.in-Some.write (split_at c.args.set.now (standing c.loop-write.buffer.records) (as_standing c.in-Some.write) c.in-Some.ensures.newest) in
    let most = c.loop-write.invariant.room in
    omega (arith, some, most)

pub loop-write-smaller : goal.loop-write-smaller
loop-write-smaller g c =
    let one = writes_step (is_of c.args.set.now) c.loop-write.buffer.records c.in-Some.write (split_at c.args.set.now (standing c.loop-write.buffer.records) (as_standing c.in-Some.write) c.in-Some.ensures.newest) c.undo_write.new.buffer.records c.undo_write.ensures.log in
    omega (arith, one)

pub loop-write-preserved : goal.loop-write-preserved
loop-write-preserved g c =
    let set = c.args.set.now in let w = c.in-Some.write in let newest = c.in-Some.ensures.newest in
    let b = c.loop-write.buffer in let d = c.undo_write.new.buffer in let grown = c.undo_write.ensures.log in
    let rs = g.S.Store.records c.loop-write.store in let qs = g.S.Store.records c.undo_write.new.store in
    let rises = rises_from rs (g.met.S.Store.rising c.loop-write.store) in let have = c.loop-write.invariant.there in
    let parts = split_at set (standing b.records) (as_standing w) newest in
    let one = writes_step (is_of set) b.records w parts d.records grown in let most = c.loop-write.invariant.room in let less = c.undo_write.ensures.room in
    record {
      advances = advances_more (is_of set) c.args.buffer.now b d w parts c.loop-write.invariant.advances grown c.undo_write.ensures.fronts less;
      records = records_step (is_of set) b.records w parts d.records grown rs qs rises have c.undo_write.ensures.records
          (records_without (is_of c.args.set.now) (standing c.args.buffer.now.records) (g.S.Store.records c.args.store.now)) c.loop-write.invariant.records;
      below = below_step set b.records w newest d.records grown;
      there = there_step (is_of set) b.records w parts d.records grown rs qs rises have c.undo_write.ensures.records;
      room = omega (arith, one, most, less);
      store_room = let first = c.loop-write.invariant.store_room in let next = c.undo_write.ensures.store_room in omega (arith, first, next);
    }

pub overflow_sub-result : goal.overflow_sub-result
overflow_sub-result g c =
    let grown = length_at_last (is_of c.args.set.now) c.args.buffer.now c.loop-write.buffer c.loop-write.invariant.advances (none_of c.args.set.now (standing c.loop-write.buffer.records) (c.in_default.ensures.none refl)) in
    let first = c.end-end.ensures.end in let last = c.end.ensures.end in
    omega (arith, grown, first, last)

pub returns-clause-records : goal.returns-clause-records
returns-clause-records g c =
    records_at_last (is_of c.args.set.now) c.args.buffer.now c.loop-write.buffer c.loop-write.invariant.advances (none_of c.args.set.now (standing c.loop-write.buffer.records) (c.in_default.ensures.none refl))
    (g.S.Store.records c.args.store.now) (g.S.Store.records c.loop-write.store) c.loop-write.invariant.records

pub returns-clause-log : goal.returns-clause-log
returns-clause-log g c =
    log_at_last (is_of c.args.set.now) c.args.buffer.now c.loop-write.buffer c.loop-write.invariant.advances (none_of c.args.set.now (standing c.loop-write.buffer.records) (c.in_default.ensures.none refl))

pub returns-clause-room : goal.returns-clause-room
returns-clause-room g c = room_at_last (is_of c.args.set.now) c.args.buffer.now c.loop-write.buffer c.loop-write.invariant.advances (none_of c.args.set.now (standing c.loop-write.buffer.records) (c.in_default.ensures.none refl))

pub returns-clause-count : goal.returns-clause-count
returns-clause-count g c =
    let grown = length_at_last (is_of c.args.set.now) c.args.buffer.now c.loop-write.buffer c.loop-write.invariant.advances (none_of c.args.set.now (standing c.loop-write.buffer.records) (c.in_default.ensures.none refl)) in
    let first = c.end-end.ensures.end in let last = c.end.ensures.end in
    omega (arith, grown, first, last)
