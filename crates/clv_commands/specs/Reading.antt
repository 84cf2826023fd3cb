-- What was read of the source.
use Rattle.std.specs.Prelude.{◌≡◌, ℕ, List, Option, None, Some}
use Rattle.command_line.specs.declared.commands.Command.{Command}
use Rattle.command_line.specs.declared.commands.Command.TheVariants.{Run, Serve, Audit}
use Rattle.history_replay.specs.Entries.{Kept}
use Rattle.io_model.specs.Streams.{Ends}
use Rattle.report_reading.specs.declared.told.Reported.{Reported}
use Rattle.report_reading.specs.Texts.{IsReport}
use Rattle.script_lang.specs.Bodies.{Body}
use Rattle.script_lang.specs.Grammar.{IsScript}
use Rattle.command_line.specs.declared.status.Status.{Status}
use Rattle.command_line.specs.declared.status.Status.TheVariants.{Script, ReadFault, Memory}

-- all of the source was read, and it is a script
abbrev pub IsRead : Option (List ℕ) → Option (List ℕ) → Type 0
IsRead left now = (bytes : List ℕ) × (script : List (List Body)) × Ends left now bytes × IsScript bytes script

-- so it is before shards are opened: they aren't where it is no script, where the source failed, or where memory was wanting
abbrev pub ReadsScript : Option Kept → Status → Option (List ℕ) → Option (List ℕ) → Type 0
ReadsScript None (Script line) left now = Unit {0}
ReadsScript None ReadFault left now = Unit {0}
ReadsScript None Memory left now = Unit {0}
ReadsScript history status left now = IsRead left now

-- all of the source was read, and tells this report
abbrev pub IsReadAs : Option (List ℕ) → Option (List ℕ) → Reported → Type 0
IsReadAs left now r = (bytes : List ℕ) × Ends left now bytes × IsReport bytes r

-- so it is before disks are read: they aren't where it is no report, where the source failed, or where memory was wanting
abbrev pub ReadsReport : Status → Option (List ℕ) → Option (List ℕ) → Type 0
ReadsReport (Script line) left now = Unit {0}
ReadsReport ReadFault left now = Unit {0}
ReadsReport Memory left now = Unit {0}
ReadsReport status left now = (r : Reported) × IsReadAs left now r

-- only `run` and `audit` read, and `serve`, once shards were opened: what it reads stands in a clause of its own
abbrev pub ReadsBy : Command → Option Kept → Status → Option (List ℕ) → Option (List ℕ) → Type 0
ReadsBy (Run tries) history status left now = ReadsScript history status left now
ReadsBy (Serve sessions) (Some kept) status left now = Unit {0}
ReadsBy Audit history status left now = ReadsReport status left now
ReadsBy command history status left now = now ≡ left
