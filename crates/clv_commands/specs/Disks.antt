-- What a command that opened no shards leaves of the disks.
use Rattle.std.specs.Prelude.{◌≡◌, ℕ, ◌<◌, ◌≤◌, List, Option, None}
use Rattle.clv_base.specs.Shards.{shard_count}
use Rattle.io_model.specs.Sides.{Stories}
use Rattle.io_model.specs.Disk.{Tells}
use Rattle.cluster_runs.specs.Begun.{AreUnchanged, MayBeLeft}
use Rattle.command_line.specs.declared.commands.Command.{Command}
use Rattle.command_line.specs.declared.commands.Command.TheVariants.{Make, Run, Show, Load, Serve, Audit, Standby}
use Rattle.cluster_opening.specs.Making.{IsMade, Spares}
use Rattle.history_replay.specs.Entries.{Kept}
use Rattle.command_line.specs.declared.status.Status.{Status}
use Rattle.command_line.specs.declared.status.Status.TheVariants.{Fine, DiskFault, Memory}

-- no disk was written; or, where one failed or memory was wanting, an opening may have begun to undo what the logs had left open
abbrev pub Closes : Status → (ℕ → Option Stories) → (ℕ → Option Stories) → Type 0
Closes (DiskFault shard) before now = MayBeLeft before now
Closes Memory before now = MayBeLeft before now
Closes status before now = AreUnchanged before now

-- no disk with bytes was written, and none beyond those of the shards
pub record SparesDisks (splits : List ℕ) (before now : ℕ → Option Stories) : Type 0 where
  pub spares : (n : ℕ) → Tells (before n) (now n) Spares
  pub others : (n : ℕ) → shard_count splits ≤ n → now n ≡ before n

abbrev pub ClosedBy : Command → Status → Option Kept → (ℕ → Option Stories) → (ℕ → Option Stories) → Type 0
ClosedBy (Make splits) status history before now = SparesDisks splits before now
ClosedBy (Run tries) status history before now = history ≡ None → Closes status before now
ClosedBy Show status history before now = history ≡ None → Closes status before now
ClosedBy (Load seed sessions accounts transfers) status history before now = history ≡ None → Closes status before now
ClosedBy (Serve sessions) status history before now = history ≡ None → Closes status before now
ClosedBy Audit status history before now = AreUnchanged before now
ClosedBy (Standby counts) status history before now = AreUnchanged before now

-- where all was fine with `make`, each shard's disk, which was empty, has its header and a closed gate
abbrev pub Makes : Command → Status → (ℕ → Option Stories) → (ℕ → Option Stories) → Type 0
Makes (Make splits) Fine before now = (n : ℕ) → n < shard_count splits → Tells (before n) (now n) (IsMade splits n)
Makes command status before now = Unit {0}
