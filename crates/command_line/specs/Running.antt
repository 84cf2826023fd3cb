-- The status of a run that opened its shards, by how its drains and sessions ended, by which shard is down, and by its text.
use Rattle.std.specs.Prelude.{◌≡◌, ◌≢◌, ⊤, ℕ, ◌≤◌, List, ◌∷◌, Option, None, Some, Result, Ok, Err}
use Rattle.std.specs.List.{AllByRecursion, Contains}
use Rattle.report_text.specs.declared.texts.ReportError.{ReportError}
use Rattle.report_text.specs.declared.texts.ReportError.TheVariants as text
use Rattle.script_runs.specs.declared.ends.StopCause.{StopCause}
use Rattle.script_runs.specs.declared.ends.StopCause.TheVariants as stop
use Rattle.command_line.specs.declared.status.Status.{Status}
use Rattle.command_line.specs.declared.status.Status.TheVariants.{Fine, Usage, Script, ReadFault, WriteFault, DiskFault, NotLog, Memory, Worn, Exists, Apart, WrongTransaction, WrongMap, Unsettled}

-- how a drain or a session ended
abbrev pub End : Type 0
End = Result (Unit {0}) StopCause

-- a shard that was down says most, then worn stamps, then want of memory
abbrev pub grave : End → ℕ
grave (Ok a) = 0
grave (Err stop.Memory) = 1
grave (Err (stop.Worn at)) = 2
grave (Err (stop.Down n)) = 3
grave (Err (stop.Unsettled n)) = 3

-- one of the ends, or a fine one, and none is graver
abbrev pub IsGravest : List End → End → Type 0
IsGravest ends end = Contains (Ok tt ∷ ends) end × AllByRecursion (λ e. grave e ≤ grave end) ends

-- where an end was by a shard that was down, there is one
abbrev pub IsFound : Option ℕ → End → Type 0
IsFound down (Err (stop.Down n)) = down ≢ None
IsFound down (Err (stop.Unsettled n)) = down ≢ None
IsFound down end = ⊤

abbrev pub AreFound : Option ℕ → List End → Type 0
AreFound down ends = AllByRecursion (IsFound down) ends

-- all was done
abbrev pub IsOk : End → Type 0
IsOk (Ok a) = ⊤
IsOk (Err cause) = ⊥

-- stamps were not wanting
abbrev pub IsNotWorn : End → Type 0
IsNotWorn (Err (stop.Worn at)) = ⊥
IsNotWorn end = ⊤

-- fine where no shard is down and each part was done; a disk's fault where one is; else worn where a part was, and else want of memory where a part was so
abbrev pub RunningTold : Option ℕ → List End → Status → Type 0
RunningTold down ends Fine = (down ≡ None) × AllByRecursion IsOk ends
RunningTold down ends (DiskFault shard) = down ≡ Some shard
RunningTold down ends (Worn at) = (down ≡ None) × Contains ends (Err (stop.Worn at))
RunningTold down ends Memory = (down ≡ None) × AllByRecursion IsNotWorn ends × Contains ends (Err stop.Memory)
RunningTold down ends Usage = ⊥
RunningTold down ends (Script line) = ⊥
RunningTold down ends ReadFault = ⊥
RunningTold down ends WriteFault = ⊥
RunningTold down ends (NotLog shard at) = ⊥
RunningTold down ends (Exists shard len) = ⊥
RunningTold down ends (Apart tx) = ⊥
RunningTold down ends (WrongTransaction place) = ⊥
RunningTold down ends (WrongMap key) = ⊥
RunningTold down ends (Unsettled count) = ⊥

-- the status by the lowest shard that is down and the gravest end
abbrev pub status_by : Option ℕ → End → Status
status_by (Some shard) end = DiskFault shard
status_by None (Ok a) = Fine
status_by None (Err (stop.Worn at)) = Worn at
status_by None (Err stop.Memory) = Memory
status_by None (Err (stop.Down n)) = Memory
status_by None (Err (stop.Unsettled n)) = Memory

-- a fine status becomes a write fault; any other stays
abbrev pub after_fault : Status → Status
after_fault Fine = WriteFault
after_fault status = status

-- want of memory for the text comes in the place of any status
abbrev pub with_text : Status → Result (Unit {0}) ReportError → Status
with_text status (Ok a) = status
with_text status (Err text.Memory) = Memory
with_text status (Err text.Failed) = after_fault status
