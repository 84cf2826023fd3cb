-- The rest and the candidates now are those that there were and these.
use Rattle.std.proofs.Common.{◌≡◌, ◌||◌, drop}
use Rattle.clv_base.specs.declared.names.TxId.{TxId}
use Rattle.clv_base.specs.Orders.{tx_in}
use Rattle.tx_table.specs.Held.{HasRoomBy}
use Rattle.txn_core.specs.Landed.{concern}
use Rattle.txn_core.proofs.noting.note_records.Given as goal

abbrev pub invariant-loop-one : goal.invariant-loop-one
invariant-loop-one l = record {
  same : (x : TxId) → (concern l.deps.pairs (drop l.one-index l.records) x || tx_in x l.candidates.txs) ≡ (concern l.deps.pairs l.records x || tx_in x l.initial.candidates.txs);
  limit : l.candidates.limit ≡ l.initial.candidates.limit;
  room : HasRoomBy (concern l.deps.pairs l.records) l.initial.candidates;
}
