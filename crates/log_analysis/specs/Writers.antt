-- Who has UPDATEs and ADDs that stand, by how many each has.
use Rattle.std.specs.Prelude.{ℕ, nat_lt, List, [], ◌∷◌, if◌then◌else◌}
use Rattle.clv_base.specs.declared.names.TxId.{TxId}
use Rattle.clv_base.specs.declared.logs.LogRecord.{LogRecord}
use Rattle.clv_base.specs.declared.logs.LogRecord.TheVariants.{Update, Add}
use Rattle.clv_base.specs.Orders.{Table, tx_insert}
use Rattle.log_analysis.specs.Facts.{TxFacts, known}

-- how many a table has for a transaction
abbrev pub count_in : Table TxFacts → TxId → ℕ
count_in m t = (known m t).standing

-- the writers with a number above 0 join the list
abbrev pub with_writer : (TxId → ℕ) → LogRecord → List TxId → List TxId
with_writer count (Update tx key before after) txs = if nat_lt 0 (count tx) then tx_insert tx txs else txs
with_writer count (Add tx key by) txs = if nat_lt 0 (count tx) then tx_insert tx txs else txs
with_writer count _ txs = txs

abbrev pub writers_by : (TxId → ℕ) → List LogRecord → List TxId → List TxId
writers_by count [] txs = txs
writers_by count (r ∷ rs) txs = writers_by count rs (with_writer count r txs)
