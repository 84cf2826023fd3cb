-- The name of a transaction as a key, and back.
use Rattle.std.specs.Prelude.{ℕ, ◌+◌, ◌*◌, ◌^◌, ◌%◌, List, map}
use Rattle.clv_base.specs.declared.names.TxId.{TxId}
use Rattle.clv_base.specs.Orders.{Table}
use Rattle.tx_table.specs.declared.key.Key.{Key}

abbrev pub key_of : TxId → Key
key_of tx = record { run = tx.run; session = tx.session; serial = tx.serial }

abbrev pub named : Key → TxId
named k = record { run = k.run; session = k.session; serial = k.serial }

-- the entries by transaction
abbrev pub by_name : {V : Type 0} → List (Key × V) → Table V
by_name es = map (λ e. (named e.0, e.1)) es

-- its three numbers as one, which tells names apart but for few
abbrev pub mixed : Key → ℕ
mixed k = (((k.serial * 64) % 2 ^ 64 + k.session) % 2 ^ 64 + (k.run * 11400714819323198485) % 2 ^ 64) % 2 ^ 64
