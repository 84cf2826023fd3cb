-- What the accounts of a workload hold behind it.
use Rattle.std.specs.Prelude.{◌≡◌, ℕ, ◌≤◌, ◌*◌, Option, None}
use Rattle.io_model.specs.Sides.{Stories}
use Rattle.history_replay.specs.Entries.{Kept}
use Rattle.history_replay.specs.Replayed.{replayed}
use Rattle.cluster_runs.specs.Ran.{RanAll}
use Rattle.script_lang.specs.Loads.{load}
use Rattle.script_runs.specs.declared.threads.Start.TheVariants.{FirstAlone}
use Rattle.command_line.specs.declared.status.Status.TheVariants.{Fine}
use Rattle.workload_laws.specs.Sums.{accounts_sum}

-- where all was fine, each holds 1000 in the mean after the acknowledged transactions, whatever the logs found stood for
abbrev pub LoadsKeepTheirSum : Type 0
LoadsKeepTheirSum =
    (seed sessions accounts transfers : ℕ) (before now : ℕ → Option Stories) (counts counts_now : ℕ → ℕ) (kept : Kept) → 1 ≤ sessions → 2 ≤ accounts
    → RanAll before now counts counts_now None FirstAlone (load seed sessions accounts transfers) kept Fine → accounts_sum accounts (replayed kept) ≡ 1000 * accounts
