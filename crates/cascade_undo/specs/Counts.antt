-- For whom each successor waits.
use Rattle.std.specs.Prelude.{◌≡◌, ℕ, ◌+◌, ◌-◌, cond, List, [], ◌∷◌, length, Option, Some, None, is_none, unwrap_or}
use Rattle.std.specs.List.{filter}
use Rattle.clv_base.specs.declared.names.TxId.{TxId}
use Rattle.clv_base.specs.Orders.{Table, tx_same, tx_get}
use Rattle.clv_base.specs.Facts.{predecessors_of, greater_place}
use Rattle.cascade_undo.specs.declared.waiting.Waiting.{Waiting}
use Rattle.cascade_undo.specs.Dependencies.{greatest_of}

-- so many open predecessors, and the greatest LSN of the COMMITs of the others
abbrev pub as_row : ℕ → Option ℕ → Waiting
as_row undecided due = record { undecided = undecided; due = due }

-- the row of a transaction; one that has none waits for nobody
abbrev pub row_at : TxId → Table Waiting → Waiting
row_at tx rows = unwrap_or (tx_get tx rows) (as_row 0 None)

-- how many of the transactions have no COMMIT
abbrev pub open_among : Table ℕ → List TxId → ℕ
open_among commits txs = length (filter (λ p. is_none (tx_get p commits)) txs)

-- the row of one with these predecessors
abbrev pub waiting_for : Table ℕ → List TxId → Waiting
waiting_for commits preds = as_row (open_among commits preds) (greatest_of commits preds)

-- each transaction's row counts its predecessors
abbrev pub AreCounted : List (TxId × TxId) → Table ℕ → Table Waiting → Type 0
AreCounted pairs commits rows = (t : TxId) → row_at t rows ≡ waiting_for commits (predecessors_of pairs t)

-- with one predecessor more, whose COMMIT stands at this LSN, if it has one
abbrev pub with_one : Option ℕ → Waiting → Waiting
with_one None w = as_row (w.undecided + 1) w.due
with_one (Some lsn) w = as_row w.undecided (greater_place (Some lsn) w.due)

-- where one of those that are open gets its COMMIT at this LSN
abbrev pub with_settled : ℕ → Waiting → Waiting
with_settled lsn w = as_row (w.undecided - 1) (greater_place (Some lsn) w.due)

-- the same of a row that may not be there
abbrev pub settled_row : ℕ → Option Waiting → Option Waiting
settled_row lsn None = None
settled_row lsn (Some w) = Some (with_settled lsn w)

-- the row of a transaction, where a predecessor of these successors gets its COMMIT
abbrev pub settled_through : ℕ → List TxId → TxId → Option Waiting → Option Waiting
settled_through lsn [] tx row = row
settled_through lsn (x ∷ xs) tx row = settled_through lsn xs tx (cond (tx_same x tx) (settled_row lsn row) row)
