use Rattle.std.proofs.Common.{◌≡◌, ◌≤◌, ◌+◌, ◌-◌, vec_len, vec_capacity}
use Rattle.ordered_store.specs.Blocks.{Empties}
use Rattle.ordered_store.proofs.growing.make_room.Given as goal

abbrev pub invariant-loop-alloc : goal.invariant-loop-alloc
invariant-loop-alloc l = record {
  empties : Empties l.spares.items;
  room : vec_len l.fn.spares ≤ vec_len l.spares;
  within : vec_len l.blocks + vec_len l.spares ≤ vec_capacity l.blocks;
  wide : vec_len l.blocks + l.cuts ≤ vec_capacity l.blocks;
  blocks : l.blocks.items ≡ l.fn.blocks.items;
}

abbrev pub decreases-loop-alloc : goal.decreases-loop-alloc
decreases-loop-alloc l = l.cuts - vec_len l.spares
