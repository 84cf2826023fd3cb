-- A set of transactions, as a test.
use Rattle.std.specs.Prelude.{Bool}
use Rattle.std.specs.List.{list_any}
use Rattle.clv_base.specs.declared.names.TxId.{TxId}
use Rattle.clv_base.specs.Orders.{tx_same}
use Rattle.history_replay.specs.declared.transactions.TxSet.{TxSet}

-- whether the transaction is a member
abbrev pub has_member : TxSet → TxId → Bool
has_member s t = list_any (tx_same t) s.members.keys
