-- Where the first COMMIT stands of one that doesn't pass: who is committed up to it is committed behind those that pass alone.
use Rattle.std.specs.Prelude.{ℕ, suc, nat_le, Bool, false, cond, not, List, [], ◌∷◌, map, length, unwrap_or}
use Rattle.clv_base.specs.declared.names.TxId.{TxId}
use Rattle.clv_base.specs.declared.logs.LogRecord.{LogRecord}
use Rattle.clv_base.specs.declared.logs.LogRecord.TheVariants.{Commit}
use Rattle.clv_base.specs.Logs.{commit_lsn}

-- the record is the COMMIT of one that doesn't pass
abbrev pub commits_another : (TxId → Bool) → LogRecord → Bool
commits_another keep (Commit tx parts) = not (keep tx)
commits_another keep _ = false

-- the place of the first such record, counted from n, or the end
abbrev pub cut_from : ℕ → (TxId → Bool) → List LogRecord → ℕ
cut_from n keep [] = n
cut_from n keep (r ∷ rs) = cond (commits_another keep r) n (cut_from (suc n) keep rs)

abbrev pub cut_of : (TxId → Bool) → List LogRecord → ℕ
cut_of keep log = cut_from 0 keep log

abbrev pub cuts_of : (TxId → Bool) → List (List LogRecord) → List ℕ
cuts_of keep logs = map (cut_of keep) logs

-- whether the transaction's COMMIT stands at or before the cut
abbrev pub is_in_time : ℕ → TxId → List LogRecord → Bool
is_in_time cut tx log = nat_le (unwrap_or (commit_lsn log tx) (length log)) cut
