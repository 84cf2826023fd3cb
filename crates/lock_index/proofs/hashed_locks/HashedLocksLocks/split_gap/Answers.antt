use Rattle.std.proofs.Common.{◌≤◌, ◌+◌, ◌/◌, sym, subst, min, ◌∷◌, [], arith, vec_capacity}
use Rattle.indexmap.specs.IndexMap.{spare}
use Rattle.lock_table.specs.Rows.{gaps_held}
use Rattle.lock_index.specs.Groups.{rows_of}
use Rattle.lock_index.specs.Rows.{groups}
use Rattle.lock_index.specs.Kept.{Table, spares, spare_at, room_at}
use Rattle.lock_index.proofs.Rooms.{of_least, of_most, spare_same, room_falls, most_falls}
use Rattle.lock_index.proofs.hashed_locks.HashedLocksLocks.split_gap.Goals as goal

pub split_gap-requires-clause-room_on : goal.split_gap-requires-clause-room_on
split_gap-requires-clause-room_on c = let s = c.self.inside in let most = min (spare s.links / 2) (vec_capacity s.copies) in
    let held = gaps_held c.args.lower (rows_of (groups s.groups.entries)) in
    let room : held ≤ room_at most (spares s.groups.entries) (c.args.new ∷ []) = subst (λ (v : Table). gaps_held c.args.lower v.rows ≤ room_at v.most v.spared (c.args.new ∷ [])) (sym c.self.view_is) c.requires.1 in
    let parts = of_least held (spare_at c.args.new (spares s.groups.entries)) most room in
    (let e = spare_same c.args.new s.groups.entries in let l = parts.0 in omega arith)

pub split_gap-requires-clause-room : goal.split_gap-requires-clause-room
split_gap-requires-clause-room c = let s = c.self.inside in let most = min (spare s.links / 2) (vec_capacity s.copies) in
    let held = gaps_held c.args.lower (rows_of (groups s.groups.entries)) in
    let room : held ≤ room_at most (spares s.groups.entries) (c.args.new ∷ []) = subst (λ (v : Table). gaps_held c.args.lower v.rows ≤ room_at v.most v.spared (c.args.new ∷ [])) (sym c.self.view_is) c.requires.1 in
    let parts = of_least held (spare_at c.args.new (spares s.groups.entries)) most room in
    (of_most held (spare s.links) (vec_capacity s.copies) parts.1).0

pub split_gap-requires-clause-copies : goal.split_gap-requires-clause-copies
split_gap-requires-clause-copies c = let s = c.self.inside in let most = min (spare s.links / 2) (vec_capacity s.copies) in
    let held = gaps_held c.args.lower (rows_of (groups s.groups.entries)) in
    let room : held ≤ room_at most (spares s.groups.entries) (c.args.new ∷ []) = subst (λ (v : Table). gaps_held c.args.lower v.rows ≤ room_at v.most v.spared (c.args.new ∷ [])) (sym c.self.view_is) c.requires.1 in
    let parts = of_least held (spare_at c.args.new (spares s.groups.entries)) most room in
    (c.self.invariant.1, (of_most held (spare s.links) (vec_capacity s.copies) parts.1).1)

pub returns-clause-room : goal.returns-clause-room
returns-clause-room c = λ t on. let s = c.self.inside in let n = gaps_held c.args.lower (rows_of (groups s.groups.entries)) in
    let fs = c.split_gap.new.groups.entries in let now = spare c.split_gap.new.links in let cap = vec_capacity c.split_gap.new.copies in
    let same = c.split_gap.ensures.copies.1 in
    subst (λ (v : Table). room_at v.most v.spared on ≤ room_at (min (now / 2) cap) (spares fs) on + gaps_held c.args.lower v.rows) c.self.view_is
    (room_falls n (min (spare s.links / 2) (vec_capacity s.copies)) (min (now / 2) cap) s.groups.entries fs (let m = most_falls n (spare s.links) now (vec_capacity s.copies) c.split_gap.ensures.room in subst (λ k. min (spare s.links / 2) (vec_capacity s.copies) ≤ min (now / 2) k + n) (sym same) m) c.split_gap.ensures.room_on on)
