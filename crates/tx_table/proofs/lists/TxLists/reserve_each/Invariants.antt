use Rattle.std.proofs.Common.{◌≡◌, ◌≤◌, true, take}
use Rattle.clv_base.specs.declared.names.TxId.{TxId}
use Rattle.clv_base.specs.Orders.{tx_in}
use Rattle.tx_table.specs.Lists.{list_in, room_in}
use Rattle.tx_table.proofs.lists.TxLists.reserve_each.Given as goal

abbrev pub invariant-loop-tx : goal.invariant-loop-tx
invariant-loop-tx l = record {
  done : (t : TxId) → tx_in t (take l.tx-index l.txs) ≡ true → l.fn.count ≤ room_in t (l.self).rooms;
  lists : (t : TxId) → list_in t (l.self).lists ≡ list_in t (l.initial.self).lists;
  room : (t : TxId) → room_in t (l.initial.self).rooms ≤ room_in t (l.self).rooms;
}
