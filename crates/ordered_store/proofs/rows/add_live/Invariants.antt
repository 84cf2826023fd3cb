use Rattle.std.proofs.Common.{◌≡◌, ◌++◌, drop}
use Rattle.clv_base.specs.Needs.{live_pairs}
use Rattle.ordered_store.proofs.rows.add_live.Given as goal

-- what was added, and what the rows to come still have
abbrev pub invariant-loop-row : goal.invariant-loop-row
invariant-loop-row l = l.pairs.items ++ live_pairs (drop l.row-index l.rows) ≡ l.fn.pairs.items ++ live_pairs l.rows
