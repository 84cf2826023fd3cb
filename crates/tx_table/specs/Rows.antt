-- What is known by transaction, and for how many transactions more there is room.
use Rattle.std.specs.Prelude.{ℕ}
use Rattle.clv_base.specs.Orders.{Table}

-- the values, each with its transaction, in an order that isn't told: `tx_get` reads them
pub record TxRows (V : Type 0) : Type 0 where
  pub rows : Table V
  pub room : ℕ
