-- The logs that a crash leaves, one by one: each goes on from what its shard found at opening, and is a front of its log at the end.
use Rattle.std.proofs.Common.{◌≡◌, sym, subst, ℕ, ◌<◌, true, Bool, List, None}
use Rattle.clv_base.specs.declared.names.TxId.{TxId}
use Rattle.clv_base.specs.declared.logs.LogRecord.{LogRecord}
use Rattle.clv_base.specs.Shards.{shard_count}
use Rattle.clv_base.specs.Logs.{aborted_in}
use Rattle.clv_base.specs.LogRules.{log_of, disorder}
use Rattle.clv_base.specs.Restarts.{run_after, restart_records, log_after_restart}
use Rattle.clv_base.specs.Journals.{History, final_of}
use Rattle.clv_base.specs.History.{Legal, logs_left}
use Rattle.protocol_laws.specs.Growth.{IsPrefixOf}
use Rattle.protocol_laws.proofs.LogOnlyGrows.DueGrowsLogs.{chain, more}
use Rattle.headline_laws.proofs.GoneAreLost.WhyPreparedOnesGo.{aborted_take}
use Rattle.headline_laws.proofs.AtOpening.EarlierOnesStoodThere.{left_begins}
use Rattle.history_laws.proofs.NeverTakenBack.{log_now}

-- each log left is in order
abbrev pub InOrder : List ℕ → List (List LogRecord) → History → List (List LogRecord) → (ℕ → Bool) → Type 0
InOrder splits before h after choice = (n : ℕ) → n < shard_count splits → disorder n (log_of (logs_left splits before h after choice) n) ≡ None

-- it goes on from what its shard opened with, and that from the log found
pub left_opened : (splits : List ℕ) (before : List (List LogRecord)) (h : History) (after : List (List LogRecord)) (choice : ℕ → Bool) (n : ℕ) → Legal splits before h after → n < shard_count splits
    → IsPrefixOf (log_after_restart n (log_of before n) (run_after before) 0) (log_of (logs_left splits before h after choice) n)
left_opened splits before h after choice n l i = subst (IsPrefixOf (log_after_restart n (log_of before n) (run_after before) 0)) (sym (log_now splits before h after choice n i)) (left_begins splits before h after (choice n) n l i)

pub left_grows : (splits : List ℕ) (before : List (List LogRecord)) (h : History) (after : List (List LogRecord)) (choice : ℕ → Bool) (n : ℕ) → Legal splits before h after → n < shard_count splits → IsPrefixOf (log_of before n) (log_of (logs_left splits before h after choice) n)
left_grows splits before h after choice n l i =
    let found = log_of before n in
    chain found (log_after_restart n found (run_after before) 0) (log_of (logs_left splits before h after choice) n) (more found (restart_records n found (run_after before) 0)) (left_opened splits before h after choice n l i)

-- an ABORT that is left is in the log
pub left_aborted : (splits : List ℕ) (before : List (List LogRecord)) (h : History) (after : List (List LogRecord)) (choice : ℕ → Bool) (n : ℕ) (t : TxId) → n < shard_count splits
    → aborted_in (log_of (logs_left splits before h after choice) n) t ≡ true → aborted_in (final_of before h after n).local.log t ≡ true
left_aborted splits before h after choice n t i x = aborted_take _ (final_of before h after n).local.log t (subst (λ z. aborted_in z t ≡ true) (log_now splits before h after choice n i) x)
