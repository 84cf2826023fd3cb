-- Whom a record that became durable concerns.
use Rattle.std.specs.Prelude.{Bool, false, ◌||◌, List}
use Rattle.std.specs.List.{list_any}
use Rattle.clv_base.specs.declared.names.TxId.{TxId}
use Rattle.clv_base.specs.declared.logs.LogRecord.{LogRecord}
use Rattle.clv_base.specs.declared.logs.LogRecord.TheVariants.{Prepare, Commit, Clr, Unadd}
use Rattle.clv_base.specs.Orders.{tx_same}
use Rattle.protocol_laws.specs.UndoLaws.{is_pair}

-- a COMMIT its transaction and those that depend on it; a PREPARE its transaction, and so a CLR or UNADD
abbrev pub concerns : List (TxId × TxId) → LogRecord → TxId → Bool
concerns pairs (Commit tx parts) x = tx_same tx x || is_pair pairs x tx
concerns pairs (Prepare tx home predecessors) x = tx_same tx x
concerns pairs (Clr tx undo_next key after) x = tx_same tx x
concerns pairs (Unadd tx undo_next key by) x = tx_same tx x
concerns pairs _ x = false

abbrev pub concern : List (TxId × TxId) → List LogRecord → TxId → Bool
concern pairs rs x = list_any (λ r. concerns pairs r x) rs
