use Rattle.std.proofs.Common.{◌≡◌, ◌≤◌, ◌+◌, drop, length, vec_len, vec_capacity}
use Rattle.clv_base.specs.Locks.{take_all}
use Rattle.lock_table.proofs.rows.take_all.Given as goal

abbrev pub invariant-loop-need : goal.invariant-loop-need
invariant-loop-need l = record {
  left : take_all l.tx l.birth (drop l.need-index l.needs) l.rows.items ≡ take_all l.tx l.birth l.needs l.initial.rows.items;
  room : vec_len l.rows + length (drop l.need-index l.needs) ≤ vec_capacity l.rows;
  capacity : vec_capacity l.rows ≡ vec_capacity l.initial.rows;
  added : vec_len l.rows ≤ vec_len l.initial.rows + l.need-index;
}
