use Rattle.std.proofs.Common.{◌≤◌, ◌*◌, ◌/◌, subst, min, arith, vec_capacity}
use Rattle.indexmap.specs.IndexMap.{spare}
use Rattle.lock_index.specs.Kept.{Table, spares, room_at}
use Rattle.lock_index.proofs.Rooms.{room_stays, room_made, most_stays, most_made}
use Rattle.lock_index.proofs.hashed_locks.HashedLocksLocks.reserve.Goals as goal

pub returns-in_err-reserve-clause-room : goal.returns-in_err-reserve-clause-room
returns-in_err-reserve-clause-room c = λ t on. let s = c.self.inside in let most = min (spare s.links / 2) (vec_capacity s.copies) in let fs = c.reserve.new.groups.entries in
    subst (λ (v : Table). room_at v.most v.spared on ≤ room_at most (spares fs) on) c.self.view_is (room_stays most most s.groups.entries fs (omega arith) c.reserve.ensures.room on)

pub returns-in_default-clause-room : goal.returns-in_default-clause-room
returns-in_default-clause-room c = λ t on. let s = c.self.inside in let cap = vec_capacity s.copies in let fs = c.reserve.new.groups.entries in let now = spare c.reserve-2.new.self in
    subst (λ (v : Table). room_at v.most v.spared on ≤ room_at (min (now / 2) cap) (spares fs) on) c.self.view_is
    (room_stays (min (spare s.links / 2) cap) (min (now / 2) cap) s.groups.entries fs (most_stays (spare s.links) now cap cap c.reserve-2.ensures.room.0 (omega arith)) c.reserve.ensures.room on)

pub returns-in_default-reserve-clause-room : goal.returns-in_default-reserve-clause-room
returns-in_default-reserve-clause-room c = λ t on. let s = c.self.inside in let cap = vec_capacity c.reserve-3.new.self in let fs = c.reserve.new.groups.entries in let now = spare c.reserve-2.new.self in
    subst (λ (v : Table). room_at v.most v.spared on ≤ room_at (min (now / 2) cap) (spares fs) on) c.self.view_is
    (room_stays (min (spare s.links / 2) (vec_capacity s.copies)) (min (now / 2) cap) s.groups.entries fs (most_stays (spare s.links) now (vec_capacity s.copies) cap c.reserve-2.ensures.room.0 c.reserve-3.ensures.capacity) c.reserve.ensures.room on)

pub returns-clause-room : goal.returns-clause-room
returns-clause-room c = λ t on. let s = c.self.inside in let cap = vec_capacity c.reserve-3.new.self in let fs = c.reserve.new.groups.entries in let now = spare c.reserve-2.new.self in
    subst (λ (v : Table). room_at v.most v.spared on ≤ room_at (min (now / 2) cap) (spares fs) on) c.self.view_is
    (room_stays (min (spare s.links / 2) (vec_capacity s.copies)) (min (now / 2) cap) s.groups.entries fs (most_stays (spare s.links) now (vec_capacity s.copies) cap c.reserve-2.ensures.room.0 c.reserve-3.ensures.capacity) c.reserve.ensures.room on)

pub returns-clause-ok : goal.returns-clause-ok
returns-clause-ok c = λ on all. let n = c.args.count in let cap = vec_capacity c.reserve-3.new.self in let fs = c.reserve.new.groups.entries in let now = spare c.reserve-2.new.self in
    let places : 2 * n ≤ now = c.in-Ok.ensures.ok in
    let copies : n ≤ cap = (let r = c.in-Ok-reserve.ensures.ok in omega arith) in
    room_made n (min (now / 2) cap) c.args.anchors.now fs (most_made n now cap places copies) c.in_ok-reserve.ensures.ok on all
