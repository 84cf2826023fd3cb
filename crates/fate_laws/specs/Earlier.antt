-- What becomes of transactions that are not of this run.
use Rattle.std.specs.Prelude.{◌≡◌, ℕ, ◌<◌, Bool, true, false, List, ◌++◌}
use Rattle.clv_base.specs.declared.names.TxId.{TxId}
use Rattle.clv_base.specs.declared.logs.LogRecord.{LogRecord}
use Rattle.clv_base.specs.Shards.{shard_count}
use Rattle.clv_base.specs.Logs.{committed_in}
use Rattle.clv_base.specs.LogRules.{log_of}
use Rattle.clv_base.specs.Restarts.{run_after}
use Rattle.clv_base.specs.Journals.{History}
use Rattle.clv_base.specs.History.{state_before}
use Rattle.history_laws.specs.Openings.{LegalFrom}
use Rattle.fate_laws.specs.Decisions.{IsTold, is_left}

-- it is not of this run: it is of an earlier one, where any log has it
abbrev pub IsEarlier : List (List LogRecord) → TxId → Type 0
IsEarlier before tx = tx.run ≡ run_after before → ⊥

-- some log had its COMMIT at opening
abbrev pub WasCommitted : List (List LogRecord) → TxId → Type 0
WasCommitted before tx = (m : ℕ) × (committed_in (log_of before m) tx ≡ true)

-- at each moment, a transaction of an earlier run that has a COMMIT in any log had one at opening
abbrev pub EarlierCommitsAreOfOpening : Type 0
EarlierCommitsAreOfOpening =
    (splits : List ℕ) (before : List (List LogRecord)) (so_far later : History) (after : List (List LogRecord)) (n : ℕ) (tx : TxId)
    → LegalFrom splits before (so_far ++ later) after → n < shard_count splits → IsEarlier before tx
    → committed_in (state_before before so_far after n).local.log tx ≡ true → WasCommitted before tx

-- so had one of which a commit is told
abbrev pub EarlierCommitsAreKnown : Type 0
EarlierCommitsAreKnown =
    (splits : List ℕ) (before : List (List LogRecord)) (h : History) (after : List (List LogRecord)) (tx : TxId)
    → LegalFrom splits before h after → IsEarlier before tx → IsTold h tx true → WasCommitted before tx

-- and one of which an abort is told had none
abbrev pub EarlierAbortsAreKnown : Type 0
EarlierAbortsAreKnown =
    (splits : List ℕ) (before : List (List LogRecord)) (h : History) (after : List (List LogRecord)) (tx : TxId)
    → LegalFrom splits before h after → IsEarlier before tx → IsTold h tx false → WasCommitted before tx → ⊥

-- where an abort of a transaction of any run is told, no shard has a COMMIT of it then or ever after
abbrev pub AbortsStay : Type 0
AbortsStay =
    (splits : List ℕ) (before : List (List LogRecord)) (h : History) (after : List (List LogRecord)) (choice : ℕ → Bool) (n : ℕ) (tx : TxId)
    → LegalFrom splits before h after → n < shard_count splits → IsTold h tx false → is_left splits before h after choice n tx ≡ false
