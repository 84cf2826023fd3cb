use Rattle.std.proofs.Common.{◌≡◌, ◌+◌, ◌++◌, drop, length, vec_len, vec_capacity}
use Rattle.ordered_store.proofs.rows.copy_to.Given as goal

-- what was added, and what the rows to come still have
abbrev pub invariant-loop-row : goal.invariant-loop-row
invariant-loop-row l = record {
  items : l.list.items ++ drop l.row-index l.rows ≡ l.fn.list.items ++ l.rows;
  len : vec_len l.list + length (drop l.row-index l.rows) ≡ vec_len l.fn.list + length l.rows;
  capacity : vec_capacity l.list ≡ vec_capacity l.fn.list;
}
