-- What a run promises that opened its shards.
use Rattle.std.specs.Prelude.{◌≡◌, ℕ, suc, ◌<◌, ◌≤◌, ◌^◌, Bool, true, List, length, slice_get, Option, Some}
use Rattle.clv_base.specs.Shards.{shard_count}
use Rattle.clv_base.specs.FileRules.{may_open}
use Rattle.clv_base.specs.Journals.{journal_of}
use Rattle.clv_base.specs.Restarts.{run_after}
use Rattle.io_model.specs.Sides.{Stories}
use Rattle.cluster_opening.specs.Logs.{LogsOfAll}
use Rattle.history_replay.specs.Entries.{Kept}
use Rattle.machine_laws.specs.Homes.{has_failed}
use Rattle.cluster_runs.specs.Histories.{entries}
use Rattle.command_line.specs.declared.status.Status.{Status}
use Rattle.command_line.specs.declared.status.Status.TheVariants.{Fine}
use Rattle.script_lang.specs.Bodies.{Body}
use Rattle.script_runs.specs.declared.ends.StopCause.{StopCause}
use Rattle.script_runs.specs.declared.ends.StopCause.TheVariants.{Down, Unsettled, Worn}
use Rattle.cluster_runs.specs.Completing.{IsWanted, SessionEnded}
use Rattle.script_runs.specs.declared.threads.Start.{Start}
use Rattle.script_runs.specs.declared.threads.Start.TheVariants.{FirstAlone}
use Rattle.cluster_runs.specs.Drained.{WasDrained, IsQuietAtEnd}
use Rattle.cluster_runs.specs.Alone.{RanAlone}
use Rattle.cluster_runs.specs.Promises.{RunPromised}
use Rattle.cluster_runs.specs.PromisedSessions.{Went, Begun}
use Rattle.cluster_runs.specs.Statuses.{StatusTold, FlushesTold}

-- where all was fine, and at least one try is wanted, each transaction of each session has ended
abbrev pub AllEnded : List ℕ → Option ℕ → List (List Body) → Kept → Status → Type 0
AllEnded splits most script kept Fine =
    IsWanted most → (k : ℕ) (bodies : List Body) → slice_get script k ≡ Some bodies → SessionEnded splits (entries kept) (suc k) most bodies
AllEnded splits most script kept status = Unit {0}

-- what stopped a session: a shard that it told to be down is one whose flush failed, and worn are stamps past the last one
abbrev pub StopTold : ℕ → (ℕ → Bool) → Went → Type 0
StopTold shards failed (Begun (Some (Down n))) = (n < shards) × (failed n ≡ true)
StopTold shards failed (Begun (Some (Unsettled n))) = (n < shards) × (failed n ≡ true)
StopTold shards failed (Begun (Some (Worn at))) = at ≡ 2 ^ 48
StopTold shards failed went = Unit {0}

pub record RanAll (before now : ℕ → Option Stories) (counts counts_now : ℕ → ℕ) (most : Option ℕ) (start : Start) (script : List (List Body)) (kept : Kept) (status : Status) : Type 0 where
  pub splits : List ℕ
  pub went : ℕ → Went
  -- the logs found are those that the disks held, under these splits, and may be opened together
  pub held : LogsOfAll splits kept.found before
  pub opens : may_open splits kept.found ≡ true
  -- the promise of the run, with its shards and with how far each session came
  pub promised : RunPromised splits before now counts counts_now most script went kept
  -- what its status tells of disks and sessions, and of the shards whose flush failed; how each transaction ended, and why a session was stopped
  pub told : StatusTold (shard_count splits) counts counts_now script (entries kept) went status
  pub flushes : FlushesTold (shard_count splits) (λ n. has_failed (journal_of n (entries kept))) status
  pub ended : AllEnded splits most script kept status
  -- where the first session's first transaction was to run alone, all that other sessions made has stamps past those of its entries
  pub alone : start ≡ FirstAlone → (bodies : List Body) → slice_get script 0 ≡ Some bodies → RanAlone splits (run_after kept.found) most bodies (entries kept)
  -- before a session was begun, each shard was settled, and had no entry of a session so far
  pub drained : (k : ℕ) (cause : Option StopCause) → k < length script → went k ≡ Begun cause → (n : ℕ) → n < shard_count splits → WasDrained n kept
  -- where all was fine each shard is settled at the end, and no part of it is active
  pub quiet : status ≡ Fine → (n : ℕ) → n < shard_count splits → IsQuietAtEnd n kept
  pub stops : (k : ℕ) → k < length script → StopTold (shard_count splits) (λ n. has_failed (journal_of n (entries kept))) (went k)
  -- each shard has its journal, and disks of no shard are as before
  pub shards : length kept.journals ≡ shard_count splits
  pub others : (n : ℕ) → shard_count splits ≤ n → (now n ≡ before n) × (counts_now n ≡ counts n)
