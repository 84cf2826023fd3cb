-- Why each status comes.
use Rattle.std.specs.Prelude.{◌≡◌, ℕ, ◌<◌, List, Option, Some, None, IfSome, Result, Ok, Err}
use Rattle.clv_base.specs.Shards.{shard_count}
use Rattle.command_line.specs.declared.commands.Command.{Command}
use Rattle.command_line.specs.declared.commands.Command.TheVariants.{Make, Serve, Audit}
use Rattle.io_model.specs.Sides.{Stories}
use Rattle.io_model.specs.Disk.{Rose}
use Rattle.cluster_opening.specs.Making.{ExistsAt}
use Rattle.cluster_opening.specs.Opening.{Refuses}
use Rattle.cluster_opening.specs.declared.error.OpenError.TheVariants as opening
use Rattle.history_replay.specs.Entries.{Kept}
use Rattle.report_reading.specs.Faults.{IsFault}
use Rattle.script_lang.specs.Grammar.{IsRefused}
use Rattle.command_line.specs.declared.status.Status.{Status}
use Rattle.command_line.specs.declared.status.Status.TheVariants.{Fine, Script, ReadFault, WriteFault, DiskFault, NotLog, Memory, Worn, Exists, Apart, WrongTransaction, WrongMap, Unsettled}

-- the shard's disk is the lowest that isn't empty, and no disk was written
abbrev pub HasBytes : Command → Status → (ℕ → Option Stories) → (ℕ → Option Stories) → Type 0
HasBytes (Make splits) (Exists shard len) before now = ExistsAt (shard_count splits) shard len before now
HasBytes command status before now = Unit {0}

-- the logs of the disks are refused so, and this is the first refusal; worn by it are only runs, and a disk failed in it, before the shards were opened
abbrev pub BreaksLogs : Status → Option Kept → (ℕ → Option Stories) → Type 0
BreaksLogs (NotLog shard at) history before = Refuses before (opening.NotLog shard at)
BreaksLogs (Apart tx) history before = Refuses before (opening.Apart tx)
BreaksLogs (Worn at) None before = Refuses before (opening.Worn at)
BreaksLogs (DiskFault shard) None before = Refuses before (opening.Failed shard)
BreaksLogs status history before = Unit {0}

-- `make` opens no logs
abbrev pub BreaksBy : Command → Status → Option Kept → (ℕ → Option Stories) → Type 0
BreaksBy (Make splits) status history before = Unit {0}
BreaksBy command status history before = BreaksLogs status history before

-- this line is the first outside the grammar at its place; 0 where there are more than 16,777,216 bytes
abbrev pub BreaksScript : Status → Option (List ℕ) → Type 0
BreaksScript (Script line) left = IfSome left (λ bytes. IsRefused bytes line)
BreaksScript status left = Unit {0}

-- of a report: this line is the first after which none goes on; 0 where there are more than 16,777,216 bytes
abbrev pub BreaksReport : Status → Option (List ℕ) → Type 0
BreaksReport (Script line) left = IfSome left (λ bytes. IsFault bytes line)
BreaksReport status left = Unit {0}

-- `audit` reads a report, and any other command a script
abbrev pub BreaksSource : Command → Status → Option (List ℕ) → Type 0
BreaksSource Audit status left = BreaksReport status left
BreaksSource command status left = BreaksScript status left

-- a read fault is told exactly where the source's count rose
abbrev pub CountsSource : ℕ → ℕ → Status → Type 0
CountsSource before now ReadFault = Rose before now
CountsSource before now status = now ≡ before

-- a write fault is told only where the sink's count rose, which stands where all was fine, where memory was wanting, and where no shards were opened; behind a
-- verdict that isn't fine it may have risen
abbrev pub CountsSink : Option Kept → ℕ → ℕ → Status → Type 0
CountsSink history before now WriteFault = Rose before now
CountsSink history before now Fine = now ≡ before
CountsSink history before now Memory = now ≡ before
CountsSink history before now (WrongTransaction place) = Unit {0}
CountsSink history before now (WrongMap key) = Unit {0}
CountsSink history before now (Unsettled count) = Unit {0}
CountsSink None before now status = now ≡ before
CountsSink history before now status = Unit {0}

-- of `serve` that opened its shards a fault of the source stands behind a disk's fault, worn stamps and want of memory: a read fault is told only where the count rose,
-- which stands where all was fine, and at a write fault
abbrev pub CountsServedSource : ℕ → ℕ → Status → Type 0
CountsServedSource before now ReadFault = Rose before now
CountsServedSource before now Fine = now ≡ before
CountsServedSource before now WriteFault = now ≡ before
CountsServedSource before now status = Unit {0}

-- a fault of the sink stands behind these, and behind one of the source
abbrev pub CountsServedSink : ℕ → ℕ → Status → Type 0
CountsServedSink before now WriteFault = Rose before now
CountsServedSink before now Fine = now ≡ before
CountsServedSink before now status = Unit {0}

abbrev pub CountsSourceBy : Command → Option Kept → ℕ → ℕ → Status → Type 0
CountsSourceBy (Serve sessions) (Some kept) before now status = CountsServedSource before now status
CountsSourceBy command history before now status = CountsSource before now status

abbrev pub CountsSinkBy : Command → Option Kept → ℕ → ℕ → Status → Type 0
CountsSinkBy (Serve sessions) (Some kept) before now status = CountsServedSink before now status
CountsSinkBy command history before now status = CountsSink history before now status

-- the counts of all disks stand
abbrev pub Stand : (ℕ → ℕ) → (ℕ → ℕ) → Type 0
Stand before now = (n : ℕ) → now n ≡ before n

-- a disk fault is told only where the count of the shard's disk rose, and those of the disks below it stand; where memory was wanting for a text, behind the
-- run of shards that were opened, a disk may have failed before; else all counts stand
abbrev pub CountsDisks : Option Kept → (ℕ → ℕ) → (ℕ → ℕ) → Status → Type 0
CountsDisks history before now (DiskFault shard) = Rose (before shard) (now shard) × ((n : ℕ) → n < shard → now n ≡ before n)
CountsDisks (Some kept) before now Memory = Unit {0}
CountsDisks history before now status = Stand before now

-- ---- reading the source

-- why a script wasn't read
abbrev pub ScriptFault : Option (List ℕ) → Status → Type 0
ScriptFault left (Script line) = IfSome left (λ bytes. IsRefused bytes line)
ScriptFault left ReadFault = Unit {0}
ScriptFault left Memory = Unit {0}
ScriptFault left status = ⊥

-- why a report wasn't read
abbrev pub ReportFault : Option (List ℕ) → Status → Type 0
ReportFault left (Script line) = IfSome left (λ bytes. IsFault bytes line)
ReportFault left ReadFault = Unit {0}
ReportFault left Memory = Unit {0}
ReportFault left status = ⊥

abbrev pub CountsScript : {A : Type 0} → ℕ → ℕ → Result A Status → Type 0
CountsScript before now (Ok script) = now ≡ before
CountsScript before now (Err status) = CountsSource before now status
