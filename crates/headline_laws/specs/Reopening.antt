-- Opening what a crash leaves.
use Rattle.std.specs.Prelude.{◌≡◌, ℕ, Bool, true, List, None}
use Rattle.clv_base.specs.declared.logs.LogRecord.{LogRecord}
use Rattle.clv_base.specs.LogRules.{apart}
use Rattle.clv_base.specs.FileRules.{may_open}
use Rattle.clv_base.specs.Journals.{History}
use Rattle.clv_base.specs.History.{logs_left}
use Rattle.history_laws.specs.Openings.{LegalFrom}

-- whatever is in doubt at opening, and whatever a crash keeps, the logs left agree on each commit
abbrev pub LogsLeftAgree : Type 0
LogsLeftAgree =
    (splits : List ℕ) (before : List (List LogRecord)) (h : History) (after : List (List LogRecord)) (choice : ℕ → Bool)
    → LegalFrom splits before h after → apart (logs_left splits before h after choice) ≡ None

-- so they may be opened again
abbrev pub LogsLeftMayBeOpened : Type 0
LogsLeftMayBeOpened =
    (splits : List ℕ) (before : List (List LogRecord)) (h : History) (after : List (List LogRecord)) (choice : ℕ → Bool)
    → LegalFrom splits before h after → may_open splits (logs_left splits before h after choice) ≡ true
