-- The ABORTs of those that have none.
use Rattle.std.specs.Prelude.{not, List, map}
use Rattle.std.specs.List.{filter}
use Rattle.clv_base.specs.declared.names.TxId.{TxId}
use Rattle.clv_base.specs.declared.logs.LogRecord.{LogRecord}
use Rattle.clv_base.specs.declared.logs.LogRecord.TheVariants.{Abort}
use Rattle.clv_base.specs.Logs.{aborted_in}

-- those of the transactions that have no ABORT
abbrev pub unaborted : List LogRecord → List TxId → List TxId
unaborted log txs = filter (λ t. not (aborted_in log t)) txs

abbrev pub aborts : List TxId → List LogRecord
aborts txs = map (λ t. Abort t) txs
