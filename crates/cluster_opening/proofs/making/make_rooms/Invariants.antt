use Rattle.std.proofs.Common.{◌≡◌, ◌≤◌, vec_len, vec_capacity}
use Rattle.std.specs.List.{All}
use Rattle.cluster_opening.proofs.making.make_rooms.Given as goal

abbrev pub invariant-loop-i : goal.invariant-loop-i
invariant-loop-i g l = record {
  len : vec_len l.rooms ≡ l._i;
  wide : l.count ≤ vec_capacity l.rooms;
  room : All (λ v. (vec_len v ≡ 0) × (l.shards ≤ vec_capacity v)) l.rooms.items;
}
