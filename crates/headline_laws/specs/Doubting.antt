-- One shard has nothing in doubt.
use Rattle.std.specs.Prelude.{◌≡◌, ℕ, Bool, true, List, [], ◌∷◌}
use Rattle.clv_base.specs.declared.logs.LogRecord.{LogRecord}
use Rattle.clv_base.specs.Logs.{in_doubt}
use Rattle.clv_base.specs.LogRules.{log_of}
use Rattle.clv_base.specs.FileRules.{may_open}
use Rattle.clv_base.specs.Journals.{History}
use Rattle.clv_base.specs.History.{Legal, logs_left}

-- neither in a log that may be opened, nor in what a crash leaves of a legal history from it
abbrev pub NothingInDoubt : Type 0
NothingInDoubt =
    (before : List LogRecord) → may_open [] (before ∷ []) ≡ true
    → (in_doubt 0 before ≡ [])
    × ((h : History) (after : List (List LogRecord)) (choice : ℕ → Bool) → Legal [] (before ∷ []) h after → in_doubt 0 (log_of (logs_left [] (before ∷ []) h after choice) 0) ≡ [])
