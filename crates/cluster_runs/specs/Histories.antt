-- What a history and the logs that a crash leaves stand for.
use Rattle.std.specs.Prelude.{ℕ, Bool, List, Option}
use Rattle.clv_base.specs.declared.logs.LogRecord.{LogRecord}
use Rattle.clv_base.specs.Journals.{History}
use Rattle.clv_base.specs.History.{Legal, Member, serial, logs_left}
use Rattle.io_model.specs.Sides.{Stories}
use Rattle.headline_laws.specs.Promise.{Promised}
use Rattle.history_replay.specs.Entries.{Kept, entries_of}
use Rattle.cluster_runs.specs.Disks.{DisksRead, DisksHold, UntoldAreDurable}

-- the entries of a run
abbrev pub entries : Kept → History
entries kept = entries_of kept.journals

-- A run's history is legal, from the logs that the disks held at its beginning to those that they hold at its end.
pub record IsLegalRun (splits : List ℕ) (before now : ℕ → Option Stories) (kept : Kept) (left : List (List LogRecord)) : Type 0 where
  pub found : DisksRead splits before kept.found
  pub left_is_read : DisksRead splits now left
  pub untold : UntoldAreDurable splits kept.found (entries kept) left now
  pub legal : Legal splits kept.found (entries kept) left

-- the logs that a crash leaves by a choice for each shard (whether the records in flight are kept), and the serial history by them
abbrev pub crash_logs : List ℕ → Kept → List (List LogRecord) → (ℕ → Bool) → List (List LogRecord)
crash_logs splits kept left choice = logs_left splits kept.found (entries kept) left choice

abbrev pub members_by : List ℕ → Kept → List (List LogRecord) → (ℕ → Bool) → List Member
members_by splits kept left choice = serial (crash_logs splits kept left choice) (entries kept)

-- The promise of a run that opened its shards: there are logs that it left, by which its history is legal, each disk holds the durable
-- records in each image that a crash may leave, and whatever a crash keeps of what is in flight, the history keeps the whole promise.
pub record Keeps (splits : List ℕ) (before now : ℕ → Option Stories) (kept : Kept) : Type 0 where
  pub left : List (List LogRecord)
  pub legal : IsLegalRun splits before now kept left
  pub disks : DisksHold splits kept.found (entries kept) left now
  pub promised : (choice : ℕ → Bool) → Promised splits kept.found (entries kept) left choice
