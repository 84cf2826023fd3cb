-- What a workload leaves that went through.
use Rattle.std.proofs.Common.{subst, ℕ, ◌≤◌, Option, None}
use Rattle.clv_base.specs.Shards.{shard_count}
use Rattle.io_model.specs.Sides.{Stories}
use Rattle.cluster_runs.specs.Ran.{RanAll}
use Rattle.history_replay.specs.Entries.{Kept}
use Rattle.cluster_runs.specs.Replays.{RunsReplay}
use Rattle.cluster_runs.specs.Histories.{entries}
use Rattle.cluster_runs.specs.Statuses.{StatusTold}
use Rattle.command_line.specs.declared.status.Status.{Status}
use Rattle.script_lang.specs.Loads.{load}
use Rattle.script_runs.specs.declared.threads.Start.TheVariants.{FirstAlone}
use Rattle.clv_commands.specs.Runs.{EndsAs, HasLoaded}
use Rattle.clv_commands.specs.Sums.{LoadsKeepTheirSum}

pub loaded : RunsReplay → LoadsKeepTheirSum → (seed sessions accounts transfers : ℕ) → 1 ≤ sessions → 2 ≤ accounts → (before now : ℕ → Option Stories) (counts counts_now : ℕ → ℕ) (kept : Kept) (running status : Status)
    → RanAll before now counts counts_now None FirstAlone (load seed sessions accounts transfers) kept running → EndsAs running status → HasLoaded accounts (load seed sessions accounts transfers) before now counts counts_now kept status
loaded replay keep seed sessions accounts transfers some two before now counts counts_now kept running status r ends = (
  running,
  r,
  ends,
  λ fine. (
    replay r.splits before now counts counts_now None (load seed sessions accounts transfers) r.went kept r.opens r.promised (subst (StatusTold (shard_count r.splits) counts counts_now (load seed sessions accounts transfers) (entries kept) r.went) fine r.told).1,
    keep seed sessions accounts transfers before now counts counts_now kept some two (subst (RanAll before now counts counts_now None FirstAlone (load seed sessions accounts transfers) kept) fine r),
  ),
)
