-- The committed transactions of logs, put into a list one after another.
use Rattle.std.specs.Prelude.{List, [], ◌∷◌}
use Rattle.clv_base.specs.declared.names.TxId.{TxId}
use Rattle.clv_base.specs.declared.logs.LogRecord.{LogRecord}
use Rattle.clv_base.specs.declared.logs.LogRecord.TheVariants.{Commit}
use Rattle.clv_base.specs.Orders.{tx_insert}

abbrev pub with_commit : LogRecord → List TxId → List TxId
with_commit (Commit tx parts) txs = tx_insert tx txs
with_commit _ txs = txs

abbrev pub with_commits : List LogRecord → List TxId → List TxId
with_commits [] txs = txs
with_commits (r ∷ rs) txs = with_commits rs (with_commit r txs)

abbrev pub with_all_commits : List (List LogRecord) → List TxId → List TxId
with_all_commits [] txs = txs
with_all_commits (log ∷ logs) txs = with_all_commits logs (with_commits log txs)
