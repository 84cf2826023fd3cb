-- What the next run finds.
use Rattle.std.specs.Prelude.{◌≡◌, ℕ, ◌<◌, Bool, List, Option, Some}
use Rattle.clv_base.specs.declared.logs.LogRecord.{LogRecord}
use Rattle.clv_base.specs.Shards.{shard_count}
use Rattle.io_model.specs.Sides.{Stories, reads_both, AreShown}
use Rattle.cluster_opening.specs.Logs.{LogsOfAll}
use Rattle.cluster_opening.specs.Accepted.{AreGoodLogs}
use Rattle.history_replay.specs.Entries.{Kept}
use Rattle.cluster_runs.specs.Histories.{Keeps, crash_logs}

-- sides that told their bytes when a run ended tell them again: of each they are those, or what a crash behind that end left of it
abbrev pub IsFoundAgain : Option Stories → Option Stories → Type 0
IsFoundAgain (Some s) (Some t) = AreShown s (reads_both t)
IsFoundAgain now next = ⊥

abbrev pub IsReadAgain : Option Stories → Option Stories → Type 0
IsReadAgain (Some s) (Some t) = reads_both t ≡ reads_both s
IsReadAgain now next = ⊥

abbrev pub AreFoundAgain : List ℕ → (ℕ → Option Stories) → (ℕ → Option Stories) → Type 0
AreFoundAgain splits now next = (n : ℕ) → n < shard_count splits → IsFoundAgain (now n) (next n)

-- whoever opens these disks finds the same splits, and the logs that the run left by a choice for each shard, whether the records in flight are there
abbrev pub LeftLogsAreFound : Type 0
LeftLogsAreFound =
    (splits splits' : List ℕ) (before now next : ℕ → Option Stories) (kept : Kept) (found : List (List LogRecord)) (k : Keeps splits before now kept)
    → AreFoundAgain splits now next → LogsOfAll splits' found next → (splits' ≡ splits) × ((choice : ℕ → Bool) × (found ≡ crash_logs splits kept k.left choice))

-- where there was no crash they are those that the run's history ends with
abbrev pub LastLogsAreFound : Type 0
LastLogsAreFound =
    (splits splits' : List ℕ) (before now next : ℕ → Option Stories) (kept : Kept) (found : List (List LogRecord)) (k : Keeps splits before now kept)
    → ((n : ℕ) → n < shard_count splits → IsReadAgain (now n) (next n)) → LogsOfAll splits' found next → (splits' ≡ splits) × (found ≡ k.left)

-- either way they may be opened together
abbrev pub LeftLogsAreGood : Type 0
LeftLogsAreGood = (splits : List ℕ) (before now next : ℕ → Option Stories) (kept : Kept) → Keeps splits before now kept → AreFoundAgain splits now next → AreGoodLogs next
