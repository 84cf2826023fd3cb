-- The rest and the candidates now are those that there were and these.
use Rattle.std.proofs.Common.{◌≡◌, ◌||◌, drop}
use Rattle.clv_base.specs.declared.names.TxId.{TxId}
use Rattle.clv_base.specs.Orders.{tx_in}
use Rattle.tx_table.specs.Held.{HasRoomFor}
use Rattle.tx_table.proofs.candidates.Candidates.insert_all.Given as goal

abbrev pub invariant-loop-tx : goal.invariant-loop-tx
invariant-loop-tx l = record {
  same : (x : TxId) → (tx_in x (drop l.tx-index l.txs) || tx_in x l.self.txs) ≡ (tx_in x l.txs || tx_in x l.initial.self.txs);
  limit : l.self.limit ≡ l.initial.self.limit;
  room : HasRoomFor l.txs l.initial.self;
}
