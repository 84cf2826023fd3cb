-- What the sink took.
use Rattle.std.specs.Prelude.{◌≡◌, ◌⊎◌, ℕ, ◌+◌, ◌*◌, List, take, Option, Some}
use Rattle.clv_base.specs.Logs.{stands}
use Rattle.command_line.specs.declared.commands.Command.{Command}
use Rattle.command_line.specs.declared.commands.Command.TheVariants.{Run, Show, Load, Serve, Audit, Standby}
use Rattle.io_model.specs.Disk.{Rose}
use Rattle.history_replay.specs.Entries.{Kept}
use Rattle.io_model.specs.Streams.{Grows}
use Rattle.report_text.specs.Loads.{load_text}
use Rattle.report_text.specs.Report.{report, pairs_text}
use Rattle.cluster_runs.specs.Histories.{entries}
use Rattle.command_line.specs.declared.status.Status.{Status}
use Rattle.command_line.specs.declared.status.Status.TheVariants.{Fine, WriteFault, DiskFault, Worn, WrongTransaction, WrongMap, Unsettled}

-- all of the text; or a front of it where the sink failed
abbrev pub TookText : List ℕ → ℕ → ℕ → Option (List ℕ) → Option (List ℕ) → Type 0
TookText text before now old new = Grows old new text ⊎ (Rose before now × ((n : ℕ) × Grows old new (take n text)))

-- a run writes its report where all was fine, where a disk failed, and where stamps were worn
abbrev pub TookReport : List ℕ → Status → ℕ → ℕ → Option (List ℕ) → Option (List ℕ) → Type 0
TookReport text Fine before now old new = Grows old new text
TookReport text WriteFault before now old new = (n : ℕ) × Grows old new (take n text)
TookReport text (DiskFault shard) before now old new = TookText text before now old new
TookReport text (Worn at) before now old new = TookText text before now old new
TookReport text status before now old new = new ≡ old

-- the line of a workload: the filling and each transfer is acknowledged, and the accounts hold 1000 each in all
abbrev pub line_of : ℕ → ℕ → ℕ → List ℕ
line_of sessions accounts transfers = load_text accounts (1 + sessions * transfers) (1000 * accounts)

-- pairs, and the line of a workload, are written only where all was fine
abbrev pub TookPairs : List ℕ → Status → Option (List ℕ) → Option (List ℕ) → Type 0
TookPairs text Fine old new = Grows old new text
TookPairs text WriteFault old new = (n : ℕ) × Grows old new (take n text)
TookPairs text status old new = new ≡ old

-- without a verdict nothing is written; with one, what is stands in a clause of its own
abbrev pub TookVerdict : Status → Option (List ℕ) → Option (List ℕ) → Type 0
TookVerdict Fine old new = Unit {0}
TookVerdict WriteFault old new = Unit {0}
TookVerdict (WrongTransaction place) old new = Unit {0}
TookVerdict (WrongMap key) old new = Unit {0}
TookVerdict (Unsettled count) old new = Unit {0}
TookVerdict status old new = new ≡ old

abbrev pub Took : Command → Status → Option Kept → ℕ → ℕ → Option (List ℕ) → Option (List ℕ) → Type 0
Took (Run tries) status (Some kept) before now old new = TookReport (report (entries kept)) status before now old new
Took Show status (Some kept) before now old new = TookPairs (pairs_text (stands kept.found)) status old new
Took (Load seed sessions accounts transfers) status (Some kept) before now old new = TookPairs (line_of sessions accounts transfers) status old new
-- what `serve` and `standby` write stands in clauses of their own
Took (Standby counts) status history before now old new = Unit {0}
Took (Serve sessions) status (Some kept) before now old new = Unit {0}
Took Audit status history before now old new = TookVerdict status old new
Took command status history before now old new = new ≡ old
