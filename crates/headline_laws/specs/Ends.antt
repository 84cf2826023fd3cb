-- What the next opening finds: the logs at the end of a history.
use Rattle.std.specs.Prelude.{◌≡◌, ℕ, ◌<◌, Bool, true, List}
use Rattle.clv_base.specs.declared.names.TxId.{TxId}
use Rattle.clv_base.specs.declared.logs.LogRecord.{LogRecord}
use Rattle.clv_base.specs.Logs.{committed_in, stands}
use Rattle.clv_base.specs.LogRules.{log_of}
use Rattle.clv_base.specs.Shards.{shard_count}
use Rattle.clv_base.specs.FileRules.{may_open}
use Rattle.clv_base.specs.Journals.{History}
use Rattle.clv_base.specs.History.{logs_left, serial}
use Rattle.history_laws.specs.Openings.{LegalFrom}
use Rattle.history_laws.specs.Continuing.{serial_left}

-- the logs at the end of a legal history may be opened
abbrev pub LogsAtTheEndMayBeOpened : Type 0
LogsAtTheEndMayBeOpened =
    (splits : List ℕ) (before : List (List LogRecord)) (h : History) (after : List (List LogRecord))
    → LegalFrom splits before h after → may_open splits after ≡ true

-- the logs at the end and those that a crash leaves tell the same: the map, the members, and on each shard who is committed
pub record TellTheSame (splits : List ℕ) (before : List (List LogRecord)) (h : History) (after : List (List LogRecord)) (choice : ℕ → Bool) : Type 0 where
  pub map : stands after ≡ stands (logs_left splits before h after choice)
  pub members : serial after h ≡ serial_left splits before h after choice
  pub commits : (n : ℕ) (t : TxId) → n < shard_count splits → committed_in (log_of after n) t ≡ committed_in (log_of (logs_left splits before h after choice) n) t

-- by some choice of what is kept of what is in flight, the logs at the end tell the same as those that a crash leaves
abbrev pub LogsAtTheEndAreWhatIsLeft : Type 0
LogsAtTheEndAreWhatIsLeft =
    (splits : List ℕ) (before : List (List LogRecord)) (h : History) (after : List (List LogRecord))
    → LegalFrom splits before h after → (choice : ℕ → Bool) × TellTheSame splits before h after choice
