-- What an index of a table has: the transactions whose rows pass a test.
use Rattle.std.specs.Prelude.{◌≡◌, Bool, false, List, Option, Some, None}
use Rattle.std.specs.List.{filter}
use Rattle.std.specs.Map.{keys_of}
use Rattle.clv_base.specs.declared.names.TxId.{TxId}
use Rattle.clv_base.specs.Orders.{Table, tx_get, tx_in}

-- whether a row passes, if there is one
abbrev pub passes : {V : Type 0} → (V → Bool) → Option V → Bool
passes test None = false
passes test (Some v) = test v

-- these are the transactions whose rows pass
abbrev pub IsIndex : {V : Type 0} → (V → Bool) → Table V → List TxId → Type 0
IsIndex test rows txs = (t : TxId) → tx_in t txs ≡ passes test (tx_get t rows)

-- they, in the table's order
abbrev pub index_of : {V : Type 0} → (V → Bool) → Table V → List TxId
index_of test rows = keys_of (filter (λ r. test r.1) rows)
