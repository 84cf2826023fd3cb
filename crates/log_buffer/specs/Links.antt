-- What a record is to the writes of a transaction.
use Rattle.std.specs.Prelude.{Bool, false}
use Rattle.clv_base.specs.declared.names.TxId.{TxId}
use Rattle.clv_base.specs.declared.logs.LogRecord.{LogRecord}
use Rattle.clv_base.specs.declared.logs.LogRecord.TheVariants.{Update, Clr, Add, Unadd}
use Rattle.clv_base.specs.Orders.{tx_same}
use Rattle.log_buffer.specs.declared.measured.Link.{Link}
use Rattle.log_buffer.specs.declared.measured.Link.TheVariants.{Writes, Undoes, Neither}

-- an UPDATE or ADD is a write, and a CLR or UNADD compensates one
abbrev pub link_of : LogRecord → Link
link_of (Update tx key before after) = Writes tx
link_of (Clr tx undo_next key after) = Undoes tx
link_of (Add tx key by) = Writes tx
link_of (Unadd tx undo_next key by) = Undoes tx
link_of _ = Neither

-- it compensates a write of the transaction
abbrev pub undoes_of : TxId → Link → Bool
undoes_of t (Writes u) = false
undoes_of t (Undoes u) = tx_same t u
undoes_of t Neither = false
