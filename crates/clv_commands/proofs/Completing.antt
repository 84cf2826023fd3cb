-- A command that is completed.
use Rattle.std.proofs.Common.{ap, ◌∙◌, subst, inl, inr, ℕ, List, length, Option, Some, None}
use Rattle.std.specs.Prelude.{IsSomeAnd}
use Rattle.io_model.specs.Sides.{Stories, reads_both}
use Rattle.io_model.specs.Disk.{Rose}
use Rattle.log_gate.specs.Make.{AreEmpty}
use Rattle.cluster_opening.specs.Making.{HasBytes}
use Rattle.cluster_opening.specs.declared.error.OpenError.TheVariants as opening
use Rattle.cluster_opening.specs.Accepted.{GoodLogsAreNotRefused}
use Rattle.command_line.specs.declared.commands.Command.{Command}
use Rattle.command_line.specs.declared.commands.Command.TheVariants.{Make, Run, Show, Load, Serve, Audit, Standby}
use Rattle.history_replay.specs.Entries.{Kept}
use Rattle.report_reading.specs.Faults.{ReportsHaveNoFault}
use Rattle.script_lang.specs.Laws.{ScriptsAreNotRefused}
use Rattle.command_line.specs.declared.status.Status.{Status}
use Rattle.command_line.specs.declared.status.Status.TheVariants.{Fine, Usage, Script, ReadFault, WriteFault, DiskFault, NotLog, Memory, Worn, Exists, Apart, WrongTransaction, WrongMap, Unsettled}
use Rattle.clv_commands.specs.Kinds.{IsOfCommand}
use Rattle.clv_commands.specs.Causes as causes
use Rattle.clv_commands.specs.Causes.{BreaksBy, BreaksScript, BreaksReport, BreaksSource, CountsSourceBy, CountsSinkBy, CountsDisks}
use Rattle.clv_commands.specs.Completing.{TellsScript, TellsReport, IsAccepted, NoneRose, IsCompleted}

-- sides without bytes have none
no_bytes : (story : Option Stories) (len : ℕ) → IsSomeAnd story (λ s. AreEmpty (reads_both s)) → HasBytes len story → ⊥
no_bytes None len empty has = empty
no_bytes (Some s) len empty (some, inl long) = some (long ∙ ap length empty.0)
no_bytes (Some s) len empty (some, inr (none, long)) = some (long ∙ ap length empty.1)

refused_line : ScriptsAreNotRefused → (left : Option (List ℕ)) (line : ℕ) → TellsScript left → BreaksScript (Script line) left → ⊥
refused_line law left line (bytes, script, is, told) breaks = law bytes script line told (subst (λ (l : Option (List ℕ)). BreaksScript (Script line) l) is breaks)

faulty_line : ReportsHaveNoFault → (left : Option (List ℕ)) (line : ℕ) → TellsReport left → BreaksReport (Script line) left → ⊥
faulty_line law left line (bytes, r, is, told) breaks = law bytes r line told (subst (λ (l : Option (List ℕ)). BreaksReport (Script line) l) is breaks)

-- a fault of the source or the sink is told where its count rose
source_rose : (sessions : ℕ) (history : Option Kept) (count count' : ℕ) → CountsSourceBy (Serve sessions) history count count' ReadFault → Rose count count'
source_rose sessions None count count' h = h
source_rose sessions (Some kept) count count' h = h

sink_rose : (sessions : ℕ) (history : Option Kept) (count count' : ℕ) → CountsSinkBy (Serve sessions) history count count' WriteFault → Rose count count'
sink_rose sessions None count count' h = h
sink_rose sessions (Some kept) count count' h = h

module _
    (scripts : ScriptsAreNotRefused) (reports : ReportsHaveNoFault) (logs : GoodLogsAreNotRefused) (history : Option Kept) (left : Option (List ℕ)) (stories stories' : ℕ → Option Stories) (source source' sink sink' : ℕ) (disks disks' : ℕ → ℕ)
    (none : NoneRose source source' sink sink' disks disks') where
  pub completed : (c : Command) (status : Status) → IsOfCommand c status → causes.HasBytes c status stories stories' → BreaksBy c status history stories → BreaksSource c status left
      → CountsSourceBy c history source source' status → CountsSinkBy c history sink sink' status → CountsDisks history disks disks' status → IsAccepted c left stories → IsCompleted c status
  completed (Make splits) Fine kind has breaks line_is s k d ok = tt
  completed (Make splits) Usage kind has breaks line_is s k d ok = absurd kind
  completed (Make splits) (Script line) kind has breaks line_is s k d ok = absurd kind
  completed (Make splits) ReadFault kind has breaks line_is s k d ok = absurd kind
  completed (Make splits) WriteFault kind has breaks line_is s k d ok = absurd kind
  completed (Make splits) (DiskFault shard) kind has breaks line_is s k d ok = absurd (none.of_disks shard d.0)
  completed (Make splits) (NotLog shard at) kind has breaks line_is s k d ok = absurd kind
  completed (Make splits) Memory kind has breaks line_is s k d ok = tt
  completed (Make splits) (Worn at) kind has breaks line_is s k d ok = absurd kind
  completed (Make splits) (Exists shard len) kind has breaks line_is s k d ok = absurd (no_bytes (stories shard) len (ok shard has.is_shard) has.here)
  completed (Make splits) (Apart tx) kind has breaks line_is s k d ok = absurd kind
  completed (Make splits) (WrongTransaction place) kind has breaks line_is s k d ok = absurd kind
  completed (Make splits) (WrongMap key) kind has breaks line_is s k d ok = absurd kind
  completed (Make splits) (Unsettled count) kind has breaks line_is s k d ok = absurd kind
  completed (Run tries) Fine kind has breaks line_is s k d ok = tt
  completed (Run tries) Usage kind has breaks line_is s k d ok = absurd kind
  completed (Run tries) (Script line) kind has breaks line_is s k d ok = absurd (refused_line scripts left line ok.0 line_is)
  completed (Run tries) ReadFault kind has breaks line_is s k d ok = absurd (none.of_source s)
  completed (Run tries) WriteFault kind has breaks line_is s k d ok = absurd (none.of_sink k)
  completed (Run tries) (DiskFault shard) kind has breaks line_is s k d ok = absurd (none.of_disks shard d.0)
  completed (Run tries) (NotLog shard at) kind has breaks line_is s k d ok = absurd (logs stories (opening.NotLog shard at) ok.1 breaks)
  completed (Run tries) Memory kind has breaks line_is s k d ok = tt
  completed (Run tries) (Worn at) kind has breaks line_is s k d ok = tt
  completed (Run tries) (Exists shard len) kind has breaks line_is s k d ok = absurd kind
  completed (Run tries) (Apart tx) kind has breaks line_is s k d ok = absurd (logs stories (opening.Apart tx) ok.1 breaks)
  completed (Run tries) (WrongTransaction place) kind has breaks line_is s k d ok = absurd kind
  completed (Run tries) (WrongMap key) kind has breaks line_is s k d ok = absurd kind
  completed (Run tries) (Unsettled count) kind has breaks line_is s k d ok = absurd kind
  completed Show Fine kind has breaks line_is s k d ok = tt
  completed Show Usage kind has breaks line_is s k d ok = absurd kind
  completed Show (Script line) kind has breaks line_is s k d ok = absurd kind
  completed Show ReadFault kind has breaks line_is s k d ok = absurd kind
  completed Show WriteFault kind has breaks line_is s k d ok = absurd (none.of_sink k)
  completed Show (DiskFault shard) kind has breaks line_is s k d ok = absurd (none.of_disks shard d.0)
  completed Show (NotLog shard at) kind has breaks line_is s k d ok = absurd (logs stories (opening.NotLog shard at) ok breaks)
  completed Show Memory kind has breaks line_is s k d ok = tt
  completed Show (Worn at) kind has breaks line_is s k d ok = tt
  completed Show (Exists shard len) kind has breaks line_is s k d ok = absurd kind
  completed Show (Apart tx) kind has breaks line_is s k d ok = absurd (logs stories (opening.Apart tx) ok breaks)
  completed Show (WrongTransaction place) kind has breaks line_is s k d ok = absurd kind
  completed Show (WrongMap key) kind has breaks line_is s k d ok = absurd kind
  completed Show (Unsettled count) kind has breaks line_is s k d ok = absurd kind
  completed (Load seed sessions accounts transfers) Fine kind has breaks line_is s k d ok = tt
  completed (Load seed sessions accounts transfers) Usage kind has breaks line_is s k d ok = absurd kind
  completed (Load seed sessions accounts transfers) (Script line) kind has breaks line_is s k d ok = absurd kind
  completed (Load seed sessions accounts transfers) ReadFault kind has breaks line_is s k d ok = absurd kind
  completed (Load seed sessions accounts transfers) WriteFault kind has breaks line_is s k d ok = absurd (none.of_sink k)
  completed (Load seed sessions accounts transfers) (DiskFault shard) kind has breaks line_is s k d ok = absurd (none.of_disks shard d.0)
  completed (Load seed sessions accounts transfers) (NotLog shard at) kind has breaks line_is s k d ok = absurd (logs stories (opening.NotLog shard at) ok breaks)
  completed (Load seed sessions accounts transfers) Memory kind has breaks line_is s k d ok = tt
  completed (Load seed sessions accounts transfers) (Worn at) kind has breaks line_is s k d ok = tt
  completed (Load seed sessions accounts transfers) (Exists shard len) kind has breaks line_is s k d ok = absurd kind
  completed (Load seed sessions accounts transfers) (Apart tx) kind has breaks line_is s k d ok = absurd (logs stories (opening.Apart tx) ok breaks)
  completed (Load seed sessions accounts transfers) (WrongTransaction place) kind has breaks line_is s k d ok = absurd kind
  completed (Load seed sessions accounts transfers) (WrongMap key) kind has breaks line_is s k d ok = absurd kind
  completed (Load seed sessions accounts transfers) (Unsettled count) kind has breaks line_is s k d ok = absurd kind
  completed (Serve sessions) Fine kind has breaks line_is s k d ok = tt
  completed (Serve sessions) Usage kind has breaks line_is s k d ok = absurd kind
  completed (Serve sessions) (Script line) kind has breaks line_is s k d ok = absurd kind
  completed (Serve sessions) ReadFault kind has breaks line_is s k d ok = absurd (none.of_source (source_rose sessions history source source' s))
  completed (Serve sessions) WriteFault kind has breaks line_is s k d ok = absurd (none.of_sink (sink_rose sessions history sink sink' k))
  completed (Serve sessions) (DiskFault shard) kind has breaks line_is s k d ok = absurd (none.of_disks shard d.0)
  completed (Serve sessions) (NotLog shard at) kind has breaks line_is s k d ok = absurd (logs stories (opening.NotLog shard at) ok breaks)
  completed (Serve sessions) Memory kind has breaks line_is s k d ok = tt
  completed (Serve sessions) (Worn at) kind has breaks line_is s k d ok = tt
  completed (Serve sessions) (Exists shard len) kind has breaks line_is s k d ok = absurd kind
  completed (Serve sessions) (Apart tx) kind has breaks line_is s k d ok = absurd (logs stories (opening.Apart tx) ok breaks)
  completed (Serve sessions) (WrongTransaction place) kind has breaks line_is s k d ok = absurd kind
  completed (Serve sessions) (WrongMap key) kind has breaks line_is s k d ok = absurd kind
  completed (Serve sessions) (Unsettled count) kind has breaks line_is s k d ok = absurd kind
  completed Audit Fine kind has breaks line_is s k d ok = tt
  completed Audit Usage kind has breaks line_is s k d ok = absurd kind
  completed Audit (Script line) kind has breaks line_is s k d ok = absurd (faulty_line reports left line ok.0 line_is)
  completed Audit ReadFault kind has breaks line_is s k d ok = absurd (none.of_source s)
  completed Audit WriteFault kind has breaks line_is s k d ok = absurd (none.of_sink k)
  completed Audit (DiskFault shard) kind has breaks line_is s k d ok = absurd (none.of_disks shard d.0)
  completed Audit (NotLog shard at) kind has breaks line_is s k d ok = absurd (logs stories (opening.NotLog shard at) ok.1 breaks)
  completed Audit Memory kind has breaks line_is s k d ok = tt
  completed Audit (Worn at) kind has breaks line_is s k d ok = absurd kind
  completed Audit (Exists shard len) kind has breaks line_is s k d ok = absurd kind
  completed Audit (Apart tx) kind has breaks line_is s k d ok = absurd (logs stories (opening.Apart tx) ok.1 breaks)
  completed Audit (WrongTransaction place) kind has breaks line_is s k d ok = tt
  completed Audit (WrongMap key) kind has breaks line_is s k d ok = tt
  completed Audit (Unsettled count) kind has breaks line_is s k d ok = tt
  completed (Standby counts) Fine kind has breaks line_is s k d ok = tt
  completed (Standby counts) Usage kind has breaks line_is s k d ok = absurd kind
  completed (Standby counts) (Script line) kind has breaks line_is s k d ok = absurd kind
  completed (Standby counts) ReadFault kind has breaks line_is s k d ok = absurd kind
  completed (Standby counts) WriteFault kind has breaks line_is s k d ok = absurd (none.of_sink k)
  completed (Standby counts) (DiskFault shard) kind has breaks line_is s k d ok = absurd (none.of_disks shard d.0)
  completed (Standby counts) (NotLog shard at) kind has breaks line_is s k d ok = absurd (logs stories (opening.NotLog shard at) ok breaks)
  completed (Standby counts) Memory kind has breaks line_is s k d ok = tt
  completed (Standby counts) (Worn at) kind has breaks line_is s k d ok = absurd kind
  completed (Standby counts) (Exists shard len) kind has breaks line_is s k d ok = absurd kind
  completed (Standby counts) (Apart tx) kind has breaks line_is s k d ok = absurd (logs stories (opening.Apart tx) ok breaks)
  completed (Standby counts) (WrongTransaction place) kind has breaks line_is s k d ok = absurd kind
  completed (Standby counts) (WrongMap key) kind has breaks line_is s k d ok = absurd kind
  completed (Standby counts) (Unsettled count) kind has breaks line_is s k d ok = absurd kind
