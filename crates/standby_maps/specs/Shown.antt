-- What is shown, by a test of transactions.
use Rattle.std.specs.Prelude.{Bool, true, ◌&&◌, List, [], ◌∷◌, take}
use Rattle.std.specs.List.{list_all}
use Rattle.clv_base.specs.declared.names.TxId.{TxId}
use Rattle.clv_base.specs.declared.logs.LogRecord.{LogRecord}
use Rattle.clv_base.specs.declared.logs.LogRecord.TheVariants.{Commit}
use Rattle.clv_base.specs.Maps.{KeyMap}
use Rattle.clv_base.specs.Logs.{committed_in, fold_updates}
use Rattle.standby_base.specs.Standby.{checked_places, is_begun}

-- the record, if it is a COMMIT, is that of one that passes
abbrev pub commit_passes : (TxId → Bool) → LogRecord → Bool
commit_passes keep (Commit tx parts) = keep tx
commit_passes keep _ = true

abbrev pub is_shown_by : (TxId → Bool) → List LogRecord → Bool
is_shown_by keep log = is_begun log && list_all (commit_passes keep) (take (checked_places log) log)

abbrev pub shown_by : (TxId → Bool) → List (List LogRecord) → KeyMap → KeyMap
shown_by keep [] m = m
shown_by keep (log ∷ logs) m = shown_by keep logs (fold_updates (λ t. keep t && committed_in log t) log m)
