-- When a command is completed.
use Rattle.std.specs.Prelude.{◌≡◌, ℕ, ◌<◌, List, Option, Some, IsSomeAnd}
use Rattle.clv_base.specs.Shards.{shard_count}
use Rattle.command_line.specs.declared.commands.Command.{Command}
use Rattle.command_line.specs.declared.commands.Command.TheVariants.{Make, Run, Show, Load, Serve, Audit, Standby}
use Rattle.io_model.specs.Sides.{Stories, reads_both}
use Rattle.io_model.specs.Disk.{Rose}
use Rattle.log_gate.specs.Make.{AreEmpty as HaveNone}
use Rattle.cluster_opening.specs.Accepted.{AreGoodLogs}
use Rattle.report_reading.specs.declared.told.Reported.{Reported}
use Rattle.report_reading.specs.Texts.{IsReport}
use Rattle.script_lang.specs.Bodies.{Body}
use Rattle.script_lang.specs.Grammar.{IsScript}
use Rattle.command_line.specs.declared.status.Status.{Status}
use Rattle.command_line.specs.declared.status.Status.TheVariants.{Fine, Memory, Worn, WrongTransaction, WrongMap, Unsettled}

-- the source tells a script, or a report; the first disks tell that they have no bytes
abbrev pub TellsScript : Option (List ℕ) → Type 0
TellsScript left = (bytes : List ℕ) × (script : List (List Body)) × (left ≡ Some bytes) × IsScript bytes script

abbrev pub TellsReport : Option (List ℕ) → Type 0
TellsReport left = (bytes : List ℕ) × (r : Reported) × (left ≡ Some bytes) × IsReport bytes r

abbrev pub AreEmpty : ℕ → (ℕ → Option Stories) → Type 0
AreEmpty count stories = (n : ℕ) → n < count → IsSomeAnd (stories n) (λ s. HaveNone (reads_both s))

-- what a command is done over
abbrev pub IsAccepted : Command → Option (List ℕ) → (ℕ → Option Stories) → Type 0
IsAccepted (Make splits) left stories = AreEmpty (shard_count splits) stories
IsAccepted (Run tries) left stories = TellsScript left × AreGoodLogs stories
IsAccepted Show left stories = AreGoodLogs stories
IsAccepted (Load seed sessions accounts transfers) left stories = AreGoodLogs stories
IsAccepted (Serve sessions) left stories = AreGoodLogs stories
IsAccepted Audit left stories = TellsReport left × AreGoodLogs stories
IsAccepted (Standby counts) left stories = AreGoodLogs stories

-- no count of a fault rose, nor stands at its end: the source's, the sink's, and the disks'
pub record NoneRose (source source' sink sink' : ℕ) (disks disks' : ℕ → ℕ) : Type 0 where
  pub of_source : Rose source source' → ⊥
  pub of_sink : Rose sink sink' → ⊥
  pub of_disks : (n : ℕ) → Rose (disks n) (disks' n) → ⊥

-- all was done, or memory was wanting, or stamps or runs were worn, which `make`, `audit` and `standby` have none of; of `audit` the verdict may be any
abbrev pub IsCompleted : Command → Status → Type 0
IsCompleted command Fine = Unit {0}
IsCompleted command Memory = Unit {0}
IsCompleted (Make splits) (Worn at) = ⊥
IsCompleted Audit (Worn at) = ⊥
IsCompleted (Standby counts) (Worn at) = ⊥
IsCompleted command (Worn at) = Unit {0}
IsCompleted Audit (WrongTransaction place) = Unit {0}
IsCompleted Audit (WrongMap key) = Unit {0}
IsCompleted Audit (Unsettled count) = Unit {0}
IsCompleted command status = ⊥
