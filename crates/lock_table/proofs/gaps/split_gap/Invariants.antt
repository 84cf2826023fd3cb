use Rattle.std.proofs.Common.{◌≡◌, ◌≤◌, ◌+◌, drop, length, vec_len, vec_capacity}
use Rattle.lock_table.proofs.Copies.{take_each}
use Rattle.lock_table.proofs.gaps.split_gap.Given as goal

abbrev pub invariant-loop-holder : goal.invariant-loop-holder
invariant-loop-holder l = record {
  left : take_each l.new (drop l.holder-index l.holder-items) l.rows.items ≡ take_each l.new l.holder-items l.initial.rows.items;
  room : vec_len l.rows + length (drop l.holder-index l.holder-items) ≤ vec_capacity l.rows;
  capacity : vec_capacity l.rows ≡ vec_capacity l.initial.rows;
  added : vec_len l.rows ≤ vec_len l.initial.rows + l.holder-index;
}
