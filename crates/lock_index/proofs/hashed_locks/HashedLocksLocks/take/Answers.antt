use Rattle.std.proofs.Common.{◌≤◌, ◌+◌, ◌/◌, sym, subst, min, length, vec_capacity}
use Rattle.indexmap.specs.IndexMap.{spare}
use Rattle.lock_table.specs.Rows.{anchors_of}
use Rattle.lock_index.specs.Kept.{Table, spares, room_at}
use Rattle.lock_index.proofs.Rooms.{room_for, room_falls, most_falls, of_most}
use Rattle.lock_index.proofs.hashed_locks.HashedLocksLocks.take.Goals as goal

pub take_all-requires-clause-room_on : goal.take_all-requires-clause-room_on
take_all-requires-clause-room_on c = let s = c.self.inside in let needs = c.args.needs.now in let most = min (spare s.links / 2) (vec_capacity s.copies) in
    let made = room_for (length needs) most s.groups.entries needs (subst (λ (v : Table). length needs ≤ room_at v.most v.spared (anchors_of needs)) (sym c.self.view_is) c.requires) in
    made.0

pub take_all-requires-clause-room : goal.take_all-requires-clause-room
take_all-requires-clause-room c = let s = c.self.inside in let needs = c.args.needs.now in let most = min (spare s.links / 2) (vec_capacity s.copies) in
    let made = room_for (length needs) most s.groups.entries needs (subst (λ (v : Table). length needs ≤ room_at v.most v.spared (anchors_of needs)) (sym c.self.view_is) c.requires) in
    (of_most (length needs) (spare s.links) (vec_capacity s.copies) made.1).0

pub returns-clause-room : goal.returns-clause-room
returns-clause-room c = λ t on. let s = c.self.inside in let n = length c.args.needs.now in let fs = c.take_all.new.groups.entries in let now = spare c.take_all.new.links in
    subst (λ (v : Table). room_at v.most v.spared on ≤ room_at (min (now / 2) (vec_capacity s.copies)) (spares fs) on + n) c.self.view_is
    (room_falls n (min (spare s.links / 2) (vec_capacity s.copies)) (min (now / 2) (vec_capacity s.copies)) s.groups.entries fs (most_falls n (spare s.links) now (vec_capacity s.copies) c.take_all.ensures.room) c.take_all.ensures.room_on on)
