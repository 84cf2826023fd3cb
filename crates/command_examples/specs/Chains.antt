-- Commands that open one behind the other what the one before left.
use Rattle.std.specs.Prelude.{◌≡◌, ⊤, ℕ, ◌<◌, List, Option, Some, IsSome}
use Rattle.clv_base.specs.Shards.{shard_count}
use Rattle.io_model.specs.Sides.{Stories}
use Rattle.cluster_opening.specs.Logs.{LogsOfAll}
use Rattle.cluster_opening.specs.Accepted.{AreGoodLogs}
use Rattle.history_replay.specs.Entries.{Kept}
use Rattle.cluster_runs.specs.Histories.{Keeps}
use Rattle.command_line.specs.declared.commands.Command.TheVariants.{Make}
use Rattle.command_line.specs.declared.status.Status.{Status}
use Rattle.clv_commands.specs.Disks.{Makes}

-- a command that opened its shards: the logs that it found, which the disks held, and its history from these to what it left
pub record Opens (before now : ℕ → Option Stories) (kept : Kept) : Type 0 where
  pub splits : List ℕ
  pub held : LogsOfAll splits kept.found before
  pub keeps : Keeps splits before now kept

-- the disks of the shards tell their bytes
abbrev pub AreTold : List ℕ → (ℕ → Option Stories) → Type 0
AreTold splits stories = (n : ℕ) → n < shard_count splits → IsSome (stories n)

-- the second one found what the first one left, where the disks of its shards tell it: the same splits, and the logs that its history ends with. So
-- they are logs over which a command is done
pub record Follows (before between now : ℕ → Option Stories) (one two : Kept) : Type 0 where
  pub first : Opens before between one
  pub second : Opens between now two
  pub splits_are : AreTold first.splits between → second.splits ≡ first.splits
  pub found_are : AreTold first.splits between → two.found ≡ (first.keeps).left
  pub good : AreTold first.splits between → AreGoodLogs between

abbrev pub IfBoth : {A : Type 0} → Option A → Option A → (A → A → Type 0) → Type 0
IfBoth (Some a) (Some b) P = P a b
IfBoth x y P = ⊤

-- a `make` that ended so, and three commands behind it and each other, which opened their shards
pub record AreJoined (splits : List ℕ) (made : Status) (old now : ℕ → Option Stories) (first second third : Option Kept) : Type 0 where
  pub fresh : ℕ → Option Stories
  pub between : ℕ → Option Stories
  pub behind : ℕ → Option Stories
  pub makes : Makes (Make splits) made old fresh
  pub one : IfBoth first second (Follows fresh between behind)
  pub two : IfBoth second third (Follows between behind now)
