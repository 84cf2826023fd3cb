-- What the table has, and the places in the rest, are all.
use Rattle.std.proofs.Common.{◌≡◌, drop}
use Rattle.clv_base.specs.declared.names.TxId.{TxId}
use Rattle.clv_base.specs.Orders.{tx_get}
use Rattle.clv_base.specs.Logs.{is_prepare_of, place_from, prepare_lsn}
use Rattle.shard_core.specs.Placed.{first_of}
use Rattle.shard_core.proofs.prepares.note_prepares.Given as goal

abbrev pub invariant-loop-lsn : goal.invariant-loop-lsn
invariant-loop-lsn l = (t : TxId) → first_of (tx_get t l.prepares.rows) (place_from l.lsn (is_prepare_of t) (drop l.lsn l.log)) ≡ prepare_lsn l.log t
