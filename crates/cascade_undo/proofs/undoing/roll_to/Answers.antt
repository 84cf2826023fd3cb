use Rattle.std.proofs.Common.{◌-◌, length, refl, arith}
use Rattle.clv_base.specs.Logs.{standing}
use Rattle.clv_base.specs.Undo.{is_at, newest_lsns, records_without}
use Rattle.ordered_store.proofs.Laws.{rises_from}
use Rattle.cascade_undo.proofs.Standing.{falls}
use Rattle.cascade_undo.proofs.Backing.{are_newest, are_own, filtered_at, one_left, back_parts, back_left, none_left}
use Rattle.cascade_undo.proofs.Stepping.{key_there, has_room, writes_step, records_step, there_step}
use Rattle.cascade_undo.proofs.Growing.{advances_none, advances_more, log_at_last, records_at_last, room_at_last}
use Rattle.cascade_undo.proofs.undoing.roll_to.Goals as goal

pub loop-write-init : goal.loop-write-init
loop-write-init g c =
    let log = c.args.buffer.now.records in let ws = standing log in
    let many = filtered_at (length log) c.args.count c.args.tx ws (falls log) in let room = c.requires.room in
    record {
      advances = advances_none (is_at (newest_lsns c.args.count c.args.tx ws)) c.args.buffer.now;
      records = refl;
      newest = are_newest c.args.count c.args.tx ws;
      there = are_own c.args.count c.args.tx (length log) ws (g.S.Store.records c.args.store.now) (falls log) c.requires.there;
      room = omega (arith, many, room);
      store_room = omega arith;
    }

pub undo_write-requires-clause-there : goal.undo_write-requires-clause-there
undo_write-requires-clause-there g c =
    let gone = is_at (newest_lsns c.args.count c.args.tx (standing c.args.buffer.now.records)) in let log = c.loop-write.buffer.records in
    let found = c.in-Some.ensures.newest in
    let parts = back_parts gone (c.loop-write.left - 1) c.args.tx log c.in-Some.write found.1 (one_left gone c.loop-write.left c.args.tx (standing log) found.0 c.loop-write.invariant.newest) in
    key_there gone log c.in-Some.write parts (g.S.Store.records c.loop-write.store) c.loop-write.invariant.there

pub undo_write-requires-clause-room : goal.undo_write-requires-clause-room
undo_write-requires-clause-room g c =
    let gone = is_at (newest_lsns c.args.count c.args.tx (standing c.args.buffer.now.records)) in let log = c.loop-write.buffer.records in
    let found = c.in-Some.ensures.newest in
    let parts = back_parts gone (c.loop-write.left - 1) c.args.tx log c.in-Some.write found.1 (one_left gone c.loop-write.left c.args.tx (standing log) found.0 c.loop-write.invariant.newest) in
    let some = has_room gone log c.in-Some.write parts in
    let most = c.loop-write.invariant.room in
    omega (arith, some, most)

pub loop-write-preserved : goal.loop-write-preserved
loop-write-preserved g c =
    let gone = is_at (newest_lsns c.args.count c.args.tx (standing c.args.buffer.now.records)) in let found = c.in-Some.ensures.newest in let w = c.in-Some.write in
    let b = c.loop-write.buffer in let d = c.undo_write.new.buffer in let grown = c.undo_write.ensures.log in
    let are = one_left gone c.loop-write.left c.args.tx (standing b.records) found.0 c.loop-write.invariant.newest in
    let parts = back_parts gone (c.loop-write.left - 1) c.args.tx b.records w found.1 are in
    let rs = g.S.Store.records c.loop-write.store in let qs = g.S.Store.records c.undo_write.new.store in
    let rises = rises_from rs (g.met.S.Store.rising c.loop-write.store) in let have = c.loop-write.invariant.there in
    let one = writes_step gone b.records w parts d.records grown in let most = c.loop-write.invariant.room in let less = c.undo_write.ensures.room in
    record {
      advances = advances_more gone c.args.buffer.now b d w parts c.loop-write.invariant.advances grown c.undo_write.ensures.fronts less;
      records = records_step gone b.records w parts d.records grown rs qs rises have c.undo_write.ensures.records
          (records_without gone (standing c.args.buffer.now.records) (g.S.Store.records c.args.store.now)) c.loop-write.invariant.records;
      newest = back_left gone (c.loop-write.left - 1) c.args.tx b.records w found.1 are d.records grown;
      there = there_step gone b.records w parts d.records grown rs qs rises have c.undo_write.ensures.records;
      room = omega (arith, one, most, less);
      store_room = let first = c.loop-write.invariant.store_room in let next = c.undo_write.ensures.store_room in omega (arith, first, next);
    }

pub returns-clause-records : goal.returns-clause-records
returns-clause-records g c =
    let gone = is_at (newest_lsns c.args.count c.args.tx (standing c.args.buffer.now.records)) in let ws = standing c.loop-write.buffer.records in
    records_at_last gone c.args.buffer.now c.loop-write.buffer c.loop-write.invariant.advances (none_left gone c.loop-write.left c.args.tx ws (c.in_default.ensures.none refl) c.loop-write.invariant.newest)
    (g.S.Store.records c.args.store.now) (g.S.Store.records c.loop-write.store) c.loop-write.invariant.records

pub returns-clause-log : goal.returns-clause-log
returns-clause-log g c =
    let gone = is_at (newest_lsns c.args.count c.args.tx (standing c.args.buffer.now.records)) in let ws = standing c.loop-write.buffer.records in
    log_at_last gone c.args.buffer.now c.loop-write.buffer c.loop-write.invariant.advances (none_left gone c.loop-write.left c.args.tx ws (c.in_default.ensures.none refl) c.loop-write.invariant.newest)

pub returns-clause-room : goal.returns-clause-room
returns-clause-room g c =
    let log = c.args.buffer.now.records in let gone = is_at (newest_lsns c.args.count c.args.tx (standing log)) in let ws = standing c.loop-write.buffer.records in
    let all = room_at_last gone c.args.buffer.now c.loop-write.buffer c.loop-write.invariant.advances (none_left gone c.loop-write.left c.args.tx ws (c.in_default.ensures.none refl) c.loop-write.invariant.newest) in
    let many = filtered_at (length log) c.args.count c.args.tx (standing log) (falls log) in
    omega (arith, all, many)
