-- What the end of a run is, by what opening and closing its cluster told.
use Rattle.std.specs.Prelude.{◌≡◌, ℕ, suc, ◌<◌, ◌≤◌, ◌^◌, Bool, true, false, List, ◌++◌, length, slice_index_or, Option, None, Some, Err, slice_get}
use Rattle.clv_base.specs.Shards.{shard_count}
use Rattle.clv_base.specs.State.{Shard}
use Rattle.clv_base.specs.Restarts.{run_after}
use Rattle.clv_base.specs.Journals.{journal_of}
use Rattle.io_model.specs.Sides.{Stories}
use Rattle.history_replay.specs.Entries.{Kept, entries_of}
use Rattle.turn_lock.specs.declared.pass.Pass.{Pass}
use Rattle.turn_lock.specs.Passes.{seen, pass_origin}
use Rattle.machine_laws.specs.declared.notes.Note.{Note}
use Rattle.machine_laws.specs.declared.notes.Origin.{Origin}
use Rattle.machine_laws.specs.Homes.{state_of, has_failed}
use Rattle.cluster_turns.specs.declared.home.Home.{Home}
use Rattle.cluster_turns.specs.declared.shards.Shards.{Shards}
use Rattle.cluster_turns.specs.declared.shards.Walker.{Walker}
use Rattle.cluster_turns.specs.Walkers.{kept as kept_by, founds_of}
use Rattle.script_lang.specs.Bodies.{Body}
use Rattle.script_runs.specs.declared.ends.StopCause.TheVariants.{Worn}
use Rattle.cluster_runs.specs.Ended.{ClusterEnded}
use Rattle.cluster_runs.specs.Sessions.{AreCounted, HasWornLast}
use Rattle.cluster_runs.specs.PromisedSessions.{Went, Begun, SessionWent, SessionsWent}
use Rattle.cluster_runs.specs.Promises.{ClusterPromised, RunPromised}
use Rattle.command_line.specs.Running.{End, IsOk, status_by}
use Rattle.cluster_runs.specs.Ends.{end_of, walked_by, IsClosedRun}
use Rattle.cluster_runs.specs.Statuses.{StatusTold, DisksTold, FlushesTold}

module _ (M S G D : Type 0) where
  -- what such a run leaves is the end of a cluster
  abbrev pub ClustersEnd : Type 0
  ClustersEnd =
      (shard : M → Shard) (sh : Shards M S G) (walkers : List (Walker M S G)) (homes : List (Home M S G)) (kept : Kept) (down : Option ℕ) (counts counts_now : ℕ → ℕ) (out out_now : ℕ → Bool × Bool) (before now : ℕ → Option Stories)
      → IsClosedRun D shard sh walkers homes kept down counts counts_now out out_now before now
      → ClusterEnded sh.splits before now counts counts_now kept (end_of D shard sh homes) (walked_by walkers)

  -- which keeps the promise, whatever its sessions did
  abbrev pub ClustersKeep : Type 0
  ClustersKeep =
      (shard : M → Shard) (sh : Shards M S G) (walkers : List (Walker M S G)) (homes : List (Home M S G)) (kept : Kept) (down : Option ℕ) (counts counts_now : ℕ → ℕ) (out out_now : ℕ → Bool × Bool) (before now : ℕ → Option Stories)
      → IsClosedRun D shard sh walkers homes kept down counts counts_now out out_now before now → ClusterPromised sh.splits before now counts counts_now kept (walked_by walkers)

  -- and with how its sessions went it keeps the promise of a run
  abbrev pub RunsKeep : Type 0
  RunsKeep =
      (shard : M → Shard) (sh : Shards M S G) (walkers : List (Walker M S G)) (homes : List (Home M S G)) (kept : Kept) (down : Option ℕ) (counts counts_now : ℕ → ℕ) (out out_now : ℕ → Bool × Bool) (before now : ℕ → Option Stories)
      (most : Option ℕ) (script : List (List Body)) (went : ℕ → Went)
      → IsClosedRun D shard sh walkers homes kept down counts counts_now out out_now before now → SessionsWent sh.splits (run_after (founds_of sh)) most script went (walked_by walkers)
      → RunPromised sh.splits before now counts counts_now most script went kept

  -- the disks that are no shard's are as they were
  abbrev pub OthersStand : Type 0
  OthersStand =
      (shard : M → Shard) (sh : Shards M S G) (walkers : List (Walker M S G)) (homes : List (Home M S G)) (kept : Kept) (down : Option ℕ) (counts counts_now : ℕ → ℕ) (out out_now : ℕ → Bool × Bool) (before now : ℕ → Option Stories)
      → IsClosedRun D shard sh walkers homes kept down counts counts_now out out_now before now → (n : ℕ) → shard_count sh.splits ≤ n → (now n ≡ before n) × (counts_now n ≡ counts n)

  -- a house whose disks were all in has them all in again
  abbrev pub AllAreIn : Type 0
  AllAreIn =
      (shard : M → Shard) (sh : Shards M S G) (walkers : List (Walker M S G)) (homes : List (Home M S G)) (kept : Kept) (down : Option ℕ) (counts counts_now : ℕ → ℕ) (out out_now : ℕ → Bool × Bool) (before now : ℕ → Option Stories)
      → IsClosedRun D shard sh walkers homes kept down counts counts_now out out_now before now → ((n : ℕ) → n < 16 → out n ≡ (false, false)) → (n : ℕ) → n < 16 → out_now n ≡ (false, false)

  -- the status by the lowest shard that is down, and by the gravest end of a drain or a session, tells so of disks and sessions: where that end is fine all sessions
  -- went through, and where it is worn stamps these came to their end
  abbrev pub StatusesTell : Type 0
  StatusesTell =
      (shard : M → Shard) (sh : Shards M S G) (walkers : List (Walker M S G)) (homes : List (Home M S G)) (kept : Kept) (down : Option ℕ) (counts counts_now : ℕ → ℕ) (out out_now : ℕ → Bool × Bool) (before now : ℕ → Option Stories)
      (script : List (List Body)) (went : ℕ → Went) (end : End)
      → IsClosedRun D shard sh walkers homes kept down counts counts_now out out_now before now → (IsOk end → (k : ℕ) → k < length script → went k ≡ Begun None) → ((k : ℕ) (d : Walker M S G) → k < length walkers → (slice_index_or walkers k d).number ≡ k)
      → length walkers ≡ suc (length script) → AreCounted script walkers → HasWornLast walkers end
      → StatusTold (shard_count sh.splits) counts counts_now script (entries_of kept.journals) went (status_by down end)

  -- and, whatever the sessions were, so of disks alone: where that end is worn stamps, only the number has to be the first past the last stamp
  abbrev pub DisksTell : Type 0
  DisksTell =
      (shard : M → Shard) (sh : Shards M S G) (walkers : List (Walker M S G)) (homes : List (Home M S G)) (kept : Kept) (down : Option ℕ) (counts counts_now : ℕ → ℕ) (out out_now : ℕ → Bool × Bool) (before now : ℕ → Option Stories) (end : End)
      → IsClosedRun D shard sh walkers homes kept down counts counts_now out out_now before now → ((at : ℕ) → end ≡ Err (Worn at) → at ≡ 2 ^ 48)
      → DisksTold (shard_count sh.splits) counts counts_now (status_by down end)

  -- and which shards' flushes failed
  abbrev pub FlushesTell : Type 0
  FlushesTell =
      (shard : M → Shard) (sh : Shards M S G) (walkers : List (Walker M S G)) (homes : List (Home M S G)) (kept : Kept) (down : Option ℕ) (counts counts_now : ℕ → ℕ) (out out_now : ℕ → Bool × Bool) (before now : ℕ → Option Stories) (end : End)
      → IsClosedRun D shard sh walkers homes kept down counts counts_now out out_now before now
      → FlushesTold (shard_count sh.splits) (λ n. has_failed (journal_of n (entries_of kept.journals))) (status_by down end)

  -- a shard that a walker's pass has seen down is one that there is, and its flush failed
  abbrev pub DownsTell : Type 0
  DownsTell =
      (shard : M → Shard) (sh : Shards M S G) (walkers : List (Walker M S G)) (homes : List (Home M S G)) (kept : Kept) (down : Option ℕ) (counts counts_now : ℕ → ℕ) (out out_now : ℕ → Bool × Bool) (before now : ℕ → Option Stories)
      (k n : ℕ) (d : Walker M S G) (p : Pass (Home M S G) Note Origin) (origin : Origin) (first later : List Note)
      → IsClosedRun D shard sh walkers homes kept down counts counts_now out out_now before now → k < length walkers → slice_index_or (slice_index_or walkers k d).passes.items n None ≡ Some p
      → pass_origin p ≡ Some origin → seen p ≡ first ++ later → (state_of origin first).is_up ≡ false
      → (n < shard_count sh.splits) × (has_failed (journal_of n (entries_of kept.journals)) ≡ true)

-- walkers whose numbers are their places, walker 0 and one for each session of the script, made the entries of these sessions
abbrev pub SessionsHaveGone : (M S G : Type 0) → Type 0
SessionsHaveGone M S G =
    (splits : List ℕ) (run : ℕ) (most : Option ℕ) (script : List (List Body)) (went : ℕ → Went) (walkers : List (Walker M S G)) → ((k : ℕ) (d : Walker M S G) → k < length walkers → (slice_index_or walkers k d).number ≡ k) → length walkers ≡ suc (length script)
    → ((k : ℕ) (bodies : List Body) (d : Walker M S G) → slice_get script k ≡ Some bodies → SessionWent splits run (suc k) most bodies (went k) (kept_by (slice_index_or walkers (suc k) d).passes.items))
    → SessionsWent splits run most script went (walked_by walkers)
