-- The order rules of the logs that a history of many shards leaves.
use Rattle.std.specs.Prelude.{◌≡◌, ℕ, ◌<◌, Bool, List, None}
use Rattle.clv_base.specs.declared.logs.LogRecord.{LogRecord}
use Rattle.clv_base.specs.Shards.{shard_count}
use Rattle.clv_base.specs.LogRules.{log_of, disorder}
use Rattle.clv_base.specs.Journals.{History}
use Rattle.clv_base.specs.History.{logs_left}
use Rattle.history_laws.specs.Openings.{LegalFrom}

-- whatever a crash keeps, the log left on each shard is in order
abbrev pub LogsLeftAreInOrder : Type 0
LogsLeftAreInOrder =
    (splits : List ℕ) (before : List (List LogRecord)) (h : History) (after : List (List LogRecord)) (choice : ℕ → Bool) (n : ℕ)
    → LegalFrom splits before h after → n < shard_count splits → disorder n (log_of (logs_left splits before h after choice) n) ≡ None
