-- Laws of the promises.
use Rattle.std.specs.Prelude.{◌≡◌, true, List, ◌∷◌, ◌++◌}
use Rattle.std.specs.List.{list_all}
use Rattle.clv_base.specs.declared.logs.LogRecord.{LogRecord}
use Rattle.clv_base.specs.Logs.{committed_somewhere, stands}
use Rattle.cluster_runs.specs.Disks.{is_undo}

-- records that an opening adds to a log, which take back no write of one with a COMMIT in some log, leave what the logs of all shards stand for
abbrev pub UndoStands : Type 0
UndoStands =
    (front behind : List (List LogRecord)) (log more : List LogRecord) → list_all (is_undo (committed_somewhere (front ++ log ∷ behind))) more ≡ true
    → stands (front ++ (log ++ more) ∷ behind) ≡ stands (front ++ log ∷ behind)
