-- The parts of transactions on a shard, and which of them are here.
use Rattle.std.specs.Prelude.{◌≡◌, Bool, true, List, Option, Some, None}
use Rattle.clv_base.specs.declared.names.TxId.{TxId}
use Rattle.clv_base.specs.declared.state.Held.{Held}
use Rattle.clv_base.specs.Orders.{Table, tx_get}
use Rattle.clv_base.specs.State.{is_present}
use Rattle.tx_table.specs.Index.{index_of}

pub record PartRows : Type 0 where
  pub entries : Table Held

-- active or closed
abbrev pub is_here : Held → Bool
is_here h = is_present (Some h.stage)

-- the transactions whose parts are here
abbrev pub parts_here : Table Held → List TxId
parts_here parts = index_of is_here parts

-- each transaction has the same part in both
abbrev pub AreAlike : Table Held → Table Held → Type 0
AreAlike found parts = (t : TxId) → tx_get t found ≡ tx_get t parts

-- there is a part, and where the new one is here, it was
abbrev pub IsNoReturn : Option Held → Held → Type 0
IsNoReturn None new = ⊥
IsNoReturn (Some old) new = is_here new ≡ true → is_here old ≡ true
