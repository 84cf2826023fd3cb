-- What holds of the parts of the dependencies, whatever the calls before.
use Rattle.std.specs.Prelude.{ℕ, ◌+◌, ◌<◌, ◌≤◌, List, length}
use Rattle.std.specs.List.Sorted.{IsStrictlySortedBy}
use Rattle.clv_base.specs.declared.names.TxId.{TxId}
use Rattle.clv_base.specs.Orders.{Table, tx_cmp, pair_cmp}
use Rattle.cascade_undo.specs.declared.waiting.Waiting.{Waiting}
use Rattle.cascade_undo.specs.Counts.{AreCounted}
use Rattle.cascade_undo.specs.Pairs.{AreTurned}

-- the pairs rise, also turned round; the marks rise; there is room to mark each successor; and the rows count each one's predecessors
pub record AreKept (pairs turned : List (TxId × TxId)) (marks : List TxId) (marks_capacity queue_capacity : ℕ) (commits : Table ℕ) (rows : Table Waiting) : Type 0 where
  pub pairs_rise : IsStrictlySortedBy pair_cmp pairs
  pub turned_rise : IsStrictlySortedBy pair_cmp turned
  pub turned_round : AreTurned pairs turned
  pub marks_rise : IsStrictlySortedBy tx_cmp marks
  pub marks_room : length turned + 1 < marks_capacity
  pub queue_room : length turned + 1 < queue_capacity
  pub counted : AreCounted pairs commits rows

-- there are no more pairs than this; and there are places to mark and to follow the successors of so many pairs more, rows for these, and places
-- for so many COMMITs and for those that have room of their own
abbrev pub HavePlaces : ℕ → ℕ → ℕ → ℕ → ℕ → ℕ → ℕ → ℕ → ℕ → Type 0
HavePlaces pairs count places marks_capacity queue_capacity rows_left reserved settled commits_left =
    (pairs ≤ count) × (count + 2 + places ≤ marks_capacity) × (count + 2 + places ≤ queue_capacity) × (places ≤ rows_left) × (reserved + settled ≤ commits_left)
