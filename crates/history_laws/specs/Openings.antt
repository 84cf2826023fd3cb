-- Legal histories from logs that may be opened.
use Rattle.std.specs.Prelude.{◌≡◌, ℕ, true, List}
use Rattle.clv_base.specs.declared.logs.LogRecord.{LogRecord}
use Rattle.clv_base.specs.FileRules.{may_open}
use Rattle.clv_base.specs.Journals.{History}
use Rattle.clv_base.specs.History.{Legal}

-- the logs found may be opened, and the history from them to the logs at the end is legal
pub record LegalFrom (splits : List ℕ) (before : List (List LogRecord)) (h : History) (after : List (List LogRecord)) : Type 0 where
  pub opens : may_open splits before ≡ true
  pub legal : Legal splits before h after
