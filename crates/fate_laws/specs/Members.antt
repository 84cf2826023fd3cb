-- Whose COMMIT stands in a log.
use Rattle.std.specs.Prelude.{◌≡◌, ℕ, ◌<◌, Bool, true, List, map}
use Rattle.clv_base.specs.declared.names.TxId.{TxId}
use Rattle.clv_base.specs.declared.logs.LogRecord.{LogRecord}
use Rattle.clv_base.specs.Orders.{tx_in}
use Rattle.clv_base.specs.Shards.{shard_count}
use Rattle.clv_base.specs.Logs.{committed_in}
use Rattle.clv_base.specs.LogRules.{log_of}
use Rattle.clv_base.specs.Restarts.{run_after}
use Rattle.clv_base.specs.Journals.{History}
use Rattle.clv_base.specs.History.{logs_left}
use Rattle.history_laws.specs.Openings.{LegalFrom}
use Rattle.history_laws.specs.Continuing.{serial_left}

-- the transaction is one of the members by what a crash leaves
abbrev pub is_member : List ℕ → List (List LogRecord) → History → List (List LogRecord) → (ℕ → Bool) → TxId → Bool
is_member splits before h after choice tx = tx_in tx (map (λ m. m.tx) (serial_left splits before h after choice))

-- a transaction of this run whose COMMIT is left in the log of any shard is a member, whatever a crash keeps
abbrev pub CommitsAreMembers : Type 0
CommitsAreMembers =
    (splits : List ℕ) (before : List (List LogRecord)) (h : History) (after : List (List LogRecord)) (choice : ℕ → Bool) (n : ℕ) (tx : TxId)
    → LegalFrom splits before h after → n < shard_count splits → tx.run ≡ run_after before
    → committed_in (log_of (logs_left splits before h after choice) n) tx ≡ true → is_member splits before h after choice tx ≡ true
