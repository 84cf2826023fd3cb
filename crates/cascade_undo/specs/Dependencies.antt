-- Who depends on whom on a shard: successors with their predecessors, the COMMITs of settled transactions, and who is marked.
use Rattle.std.specs.Prelude.{◌≡◌, ℕ, ◌≤◌, true, List, [], ◌∷◌, length, Option, None, is_none}
use Rattle.std.specs.List.{filter}
use Rattle.clv_base.specs.declared.names.TxId.{TxId}
use Rattle.clv_base.specs.Orders.{Table, tx_get, tx_in}
use Rattle.clv_base.specs.Undo.{successors_through}
use Rattle.clv_base.specs.Facts.{predecessors_of, greater_place, due_by}
use Rattle.tx_table.specs.Lists.{room_in}

pub record Dependencies : Type 0 where
  -- successors with their predecessors, rising
  pub pairs : List (TxId × TxId)
  -- the LSNs of the COMMITs of settled transactions, in an order that isn't told
  pub commits : Table ℕ
  -- rising
  pub marked : List TxId
  -- for how many settled transactions more room is reserved
  pub room : ℕ
  -- for how many settled transactions more, beside those
  pub settled_room : ℕ
  -- for how many predecessors more each transaction has places, and for how many successors more
  pub ahead : Table ℕ
  pub behind : Table ℕ
  -- for how many pairs more there are places to mark their successors, and rows
  pub places : ℕ

-- there are places for the transaction to become a successor of each of these
abbrev pub MayFollow : TxId → List TxId → Dependencies → Type 0
MayFollow tx preds d = (length preds ≤ room_in tx d.ahead) × ((p : TxId) → tx_in p preds ≡ true → 1 ≤ room_in p d.behind) × (length preds ≤ d.places)

-- the predecessors of the transaction that aren't settled
abbrev pub undecided_by : Dependencies → TxId → List TxId
undecided_by d tx = filter (λ p. is_none (tx_get p d.commits)) (predecessors_of d.pairs tx)

-- the greatest LSN of the transactions' COMMITs
abbrev pub greatest_of : Table ℕ → List TxId → Option ℕ
greatest_of commits [] = None
greatest_of commits (p ∷ ps) = greater_place (tx_get p commits) (greatest_of commits ps)

-- that of the predecessors' COMMITs; none while one isn't settled, or where there is none
abbrev pub due_of : Dependencies → TxId → Option ℕ
due_of d tx = due_by (undecided_by d tx) (greatest_of d.commits (predecessors_of d.pairs tx))

-- the transaction and all that are its successors through any number, rising
abbrev pub doomed : List (TxId × TxId) → TxId → List TxId
doomed pairs tx = successors_through (length pairs) pairs (tx ∷ [])
