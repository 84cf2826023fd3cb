-- What the records of a quiet shard hold.
use Rattle.std.specs.Prelude.{◌≡◌, ℕ, ◌<◌, Bool, List, [], ◌∷◌}
use Rattle.clv_base.specs.declared.logs.LogRecord.{LogRecord}
use Rattle.clv_base.specs.Shards.{shard_count}
use Rattle.clv_base.specs.Logs.{stands}
use Rattle.clv_base.specs.LogRules.{log_of}
use Rattle.clv_base.specs.Needs.{live_pairs}
use Rattle.clv_base.specs.Journals.{History, final_of}
use Rattle.clv_base.specs.History.{IsQuiet, logs_left}
use Rattle.history_laws.specs.Openings.{LegalFrom}

-- where a shard is quiet, its live records are the map that its log left stands for, whatever a crash would keep
abbrev pub QuietShardsAreTheirMaps : Type 0
QuietShardsAreTheirMaps =
    (splits : List ℕ) (before : List (List LogRecord)) (h : History) (after : List (List LogRecord)) (choice : ℕ → Bool) (n : ℕ)
    → LegalFrom splits before h after → n < shard_count splits → IsQuiet (final_of before h after n)
    → live_pairs (final_of before h after n).local.records ≡ stands (log_of (logs_left splits before h after choice) n ∷ [])
