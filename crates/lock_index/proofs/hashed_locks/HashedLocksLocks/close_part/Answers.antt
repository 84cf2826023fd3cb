use Rattle.std.proofs.Common.{◌≤◌, ◌/◌, subst, min, arith, vec_capacity}
use Rattle.indexmap.specs.IndexMap.{spare}
use Rattle.lock_index.specs.Kept.{Table, spares, room_at}
use Rattle.lock_index.proofs.Rooms.{room_stays}
use Rattle.lock_index.proofs.hashed_locks.HashedLocksLocks.close_part.Goals as goal

pub returns-clause-room : goal.returns-clause-room
returns-clause-room c = λ t on. let s = c.self.inside in let most = min (spare s.links / 2) (vec_capacity s.copies) in let fs = c.close.new.groups.entries in
    subst (λ (v : Table). room_at v.most v.spared on ≤ room_at most (spares fs) on) c.self.view_is (room_stays most most s.groups.entries fs (omega arith) c.close.ensures.room on)
