-- A list of transactions for each of some transactions, and for how many more each list has room.
use Rattle.std.specs.Prelude.{ℕ, ◌-◌, List, [], map, unwrap_or, Vec, vec_len, vec_capacity}
use Rattle.std.specs.List.Sorted.{IsStrictlySortedBy}
use Rattle.std.specs.declared.alloc.Global.{Global}
use Rattle.clv_base.specs.declared.names.TxId.{TxId}
use Rattle.clv_base.specs.Orders.{Table, tx_cmp, tx_get}
use Rattle.tx_table.specs.declared.key.Key.{Key}
use Rattle.tx_table.specs.Keys.{named}

-- both in an order that isn't told: `list_in` and `room_in` read them
pub record ListRows : Type 0 where
  pub lists : Table (List TxId)
  pub rooms : Table ℕ

-- the list of a transaction; one that has none has none in it
abbrev pub list_in : TxId → Table (List TxId) → List TxId
list_in tx lists = unwrap_or (tx_get tx lists) []

-- for how many more it has room
abbrev pub room_in : TxId → Table ℕ → ℕ
room_in tx rooms = unwrap_or (tx_get tx rooms) 0

-- what a map keeps
abbrev pub ListEntries : Type 0
ListEntries = List (Key × Vec TxId Global)

abbrev pub lists_of : ListEntries → Table (List TxId)
lists_of es = map (λ e. (named e.0, (e.1).items)) es

abbrev pub rooms_of : ListEntries → Table ℕ
rooms_of es = map (λ e. (named e.0, vec_capacity e.1 - vec_len e.1)) es

-- the list of each transaction rises
abbrev pub AllRise : Table (List TxId) → Type 0
AllRise lists = (t : TxId) → IsStrictlySortedBy tx_cmp (list_in t lists)
