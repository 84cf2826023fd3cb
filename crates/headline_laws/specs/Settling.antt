-- What the records of all shards hold where nothing is left to do.
use Rattle.std.specs.Prelude.{◌≡◌, ℕ, Bool, List}
use Rattle.clv_base.specs.declared.logs.LogRecord.{LogRecord}
use Rattle.clv_base.specs.Logs.{stands}
use Rattle.clv_base.specs.Journals.{History}
use Rattle.clv_base.specs.History.{IsSettled, logs_left}
use Rattle.history_laws.specs.Openings.{LegalFrom}
use Rattle.headline_laws.specs.SettlingHere.{live_pairs_of_all}

-- where the history is settled, the live records, one shard after another, are the map that the logs left stand for, whatever a crash would keep
abbrev pub SettledIsTheMap : Type 0
SettledIsTheMap =
    (splits : List ℕ) (before : List (List LogRecord)) (h : History) (after : List (List LogRecord)) (choice : ℕ → Bool)
    → LegalFrom splits before h after → IsSettled splits before h after
    → live_pairs_of_all splits before h after ≡ stands (logs_left splits before h after choice)
