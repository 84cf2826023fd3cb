-- The promise of a run of a script's sessions over all shards, and of any sessions.
use Rattle.std.specs.Prelude.{◌≡◌, ℕ, ◌<◌, true, false, List, [], Option}
use Rattle.clv_base.specs.Shards.{shard_count}
use Rattle.clv_base.specs.State.{Shard}
use Rattle.clv_base.specs.Restarts.{run_after}
use Rattle.clv_base.specs.Journals.{History, journal_of, own}
use Rattle.io_model.specs.Sides.{Stories}
use Rattle.io_model.specs.Disk.{Rose}
use Rattle.history_replay.specs.Entries.{Kept}
use Rattle.machine_laws.specs.Homes.{has_failed}
use Rattle.cluster_runs.specs.Histories.{entries, Keeps}
use Rattle.script_lang.specs.Bodies.{Body}
use Rattle.script_runs.specs.Sessions.{session_entries}
use Rattle.cluster_runs.specs.Ended.{ClusterEnded, runs_on}
use Rattle.cluster_runs.specs.PromisedSessions.{Went, SessionsWent, SessionsFollow}

-- ---- whatever its sessions did

pub record ClusterPromised (splits : List ℕ) (before now : ℕ → Option Stories) (counts counts_now : ℕ → ℕ) (kept : Kept) (own_of : ℕ → History) : Type 0 where
  -- the history is legal, from the logs that the disks held to those that they hold; each disk holds its shard's records in each image that a crash may
  -- leave; and whatever a crash keeps of what is in flight, the history keeps the whole promise
  pub keeps : Keeps splits before now kept
  -- the entries of each walker are its own, and walker 0 made none that only sessions make
  pub owned : (walker : ℕ) → own walker (entries kept) ≡ own_of walker
  pub no_session : session_entries (own 0 (entries kept)) ≡ []
  -- the count of a shard's disk rose where a flush failed, and else it stands
  pub rose : (n : ℕ) → n < shard_count splits → has_failed (journal_of n (entries kept)) ≡ true → Rose (counts n) (counts_now n)
  pub stands : (n : ℕ) → n < shard_count splits → has_failed (journal_of n (entries kept)) ≡ false → counts_now n ≡ counts n
  -- no shard was stopped or restarted
  pub on : (n : ℕ) → n < shard_count splits → runs_on (journal_of n (entries kept)) ≡ true

-- the end of a cluster keeps it
abbrev pub ClustersArePromised : Type 0
ClustersArePromised =
    (splits : List ℕ) (before now : ℕ → Option Stories) (counts counts_now : ℕ → ℕ) (kept : Kept) (states : ℕ → Shard) (own_of : ℕ → History)
    → ClusterEnded splits before now counts counts_now kept states own_of → ClusterPromised splits before now counts counts_now kept own_of

-- ---- of a script's sessions

pub record RunPromised (splits : List ℕ) (before now : ℕ → Option Stories) (counts counts_now : ℕ → ℕ) (most : Option ℕ) (script : List (List Body)) (went : ℕ → Went) (kept : Kept) : Type 0 where
  -- the history is legal, from the logs that the disks held to those that they hold; each disk holds its shard's records in each image that a crash may
  -- leave; and whatever a crash keeps of what is in flight, the history keeps the whole promise
  pub keeps : Keeps splits before now kept
  -- what its walker made of a session of the script is its transactions, in order, each in its tries
  pub sessions : SessionsFollow splits (run_after kept.found) most script went (λ walker. own walker (entries kept))
  -- the count of a shard's disk rose where a flush failed, and else it stands
  pub rose : (n : ℕ) → n < shard_count splits → has_failed (journal_of n (entries kept)) ≡ true → Rose (counts n) (counts_now n)
  pub stands : (n : ℕ) → n < shard_count splits → has_failed (journal_of n (entries kept)) ≡ false → counts_now n ≡ counts n
  -- no shard was stopped or restarted
  pub on : (n : ℕ) → n < shard_count splits → runs_on (journal_of n (entries kept)) ≡ true

-- the end of a cluster, with how its sessions went, is such a run
abbrev pub RunsArePromised : Type 0
RunsArePromised =
    (splits : List ℕ) (before now : ℕ → Option Stories) (counts counts_now : ℕ → ℕ) (most : Option ℕ) (script : List (List Body)) (went : ℕ → Went) (kept : Kept) (states : ℕ → Shard) (own_of : ℕ → History)
    → ClusterEnded splits before now counts counts_now kept states own_of → SessionsWent splits (run_after kept.found) most script went own_of
    → RunPromised splits before now counts counts_now most script went kept
