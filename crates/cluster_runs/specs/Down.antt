-- Which shards are down at the end of a run that restarts none, and what their disks counted.
use Rattle.std.specs.Prelude.{◌≡◌, ℕ, ◌<◌, true, false, not, List, Option, Some, None}
use Rattle.clv_base.specs.declared.logs.LogRecord.{LogRecord}
use Rattle.clv_base.specs.declared.events.Entry.{Entry}
use Rattle.clv_base.specs.Shards.{shard_count}
use Rattle.clv_base.specs.State.{Shard}
use Rattle.clv_base.specs.Restarts.{opened}
use Rattle.clv_base.specs.Journals.{History}
use Rattle.clv_base.specs.Machines.{Runs}
use Rattle.io_model.specs.Sides.{Stories}
use Rattle.io_model.specs.Disk.{Rose}
use Rattle.history_replay.specs.Entries.{Kept}
use Rattle.machine_laws.specs.Homes.{has_failed}
use Rattle.cluster_runs.specs.Disks.{flush_failed}
use Rattle.cluster_runs.specs.Ended.{ClusterEnded, runs_on}

-- a shard that was neither stopped nor restarted is down exactly where a flush has failed, and that was its last one
abbrev pub FailedAreDown : Type 0
FailedAreDown =
    (n run : ℕ) (found : List LogRecord) (journal : List Entry) (s : Shard) → Runs (opened n run found) journal s → runs_on journal ≡ true
    → (has_failed journal ≡ not s.is_up) × (flush_failed journal ≡ not s.is_up)

-- and once it is down it stays so
abbrev pub DownStays : Type 0
DownStays = (s t : Shard) (more : List Entry) → Runs s more t → runs_on more ≡ true → s.is_up ≡ not true → t.is_up ≡ not true

-- the lowest of so many shards that is down, if one is
abbrev pub IsLowestDown : (ℕ → Shard) → ℕ → Option ℕ → Type 0
IsLowestDown states count None = (n : ℕ) → n < count → (states n).is_up ≡ true
IsLowestDown states count (Some m) = (m < count) × ((states m).is_up ≡ false) × ((n : ℕ) → n < m → (states n).is_up ≡ true)

-- the lowest whose disk's count rose, if one did; those below it stand
abbrev pub IsLowestFault : (ℕ → ℕ) → (ℕ → ℕ) → ℕ → Option ℕ → Type 0
IsLowestFault counts counts_now count None = (n : ℕ) → n < count → counts_now n ≡ counts n
IsLowestFault counts counts_now count (Some m) = (m < count) × Rose (counts m) (counts_now m) × ((n : ℕ) → n < m → counts_now n ≡ counts n)

-- at the end of a cluster they are the same
abbrev pub LowestDownIsFault : Type 0
LowestDownIsFault =
    (splits : List ℕ) (before now : ℕ → Option Stories) (counts counts_now : ℕ → ℕ) (kept : Kept) (states : ℕ → Shard) (own_of : ℕ → History) (down : Option ℕ)
    → ClusterEnded splits before now counts counts_now kept states own_of → IsLowestDown states (shard_count splits) down → IsLowestFault counts counts_now (shard_count splits) down
