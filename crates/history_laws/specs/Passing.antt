-- Homes, parts and keys in logs.
use Rattle.std.specs.Prelude.{◌≡◌, ℕ, Bool, true, List}
use Rattle.std.specs.List.{list_all}
use Rattle.clv_base.specs.declared.logs.LogRecord.{LogRecord}
use Rattle.clv_base.specs.LogRules.{all_logs_from}
use Rattle.clv_base.specs.FileRules.{passes_file_rules}
use Rattle.clv_base.specs.Journals.{History}
use Rattle.clv_base.specs.History.{logs_left}
use Rattle.history_laws.specs.Openings.{LegalFrom}

-- whether each home and part is a shard, and each key lies in its shard's span
abbrev pub pass_file_rules : List ℕ → List (List LogRecord) → Bool
pass_file_rules splits logs = all_logs_from 0 (λ n log. list_all (passes_file_rules splits n) log) logs

-- so it is in the logs that a crash leaves, whatever it keeps of what is in flight
abbrev pub LogsLeftPass : Type 0
LogsLeftPass =
    (splits : List ℕ) (before : List (List LogRecord)) (h : History) (after : List (List LogRecord)) (choice : ℕ → Bool)
    → LegalFrom splits before h after → pass_file_rules splits (logs_left splits before h after choice) ≡ true
