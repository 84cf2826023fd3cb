-- What the records hold where nothing is left to do.
use Rattle.std.specs.Prelude.{◌≡◌, ℕ, Bool, List, [], ◌∷◌}
use Rattle.clv_base.specs.declared.logs.LogRecord.{LogRecord}
use Rattle.clv_base.specs.Logs.{stands}
use Rattle.clv_base.specs.Needs.{live_pairs}
use Rattle.clv_base.specs.Journals.{History, final_of}
use Rattle.clv_base.specs.History.{IsSettled, logs_left}
use Rattle.history_laws.specs.Openings.{LegalFrom}

-- where a history is settled the live records are the map that the log left stands for, whatever a crash would keep
abbrev pub SettledIsTheMap : Type 0
SettledIsTheMap =
    (before : List LogRecord) (h : History) (after : List (List LogRecord)) (choice : ℕ → Bool)
    → LegalFrom [] (before ∷ []) h after → IsSettled [] (before ∷ []) h after
    → live_pairs (final_of (before ∷ []) h after 0).local.records ≡ stands (logs_left [] (before ∷ []) h after choice)
