-- What the status of a run that opened its shards tells of its disks and sessions.
use Rattle.std.specs.Prelude.{◌≡◌, ℕ, ◌+◌, ◌-◌, ◌<◌, ◌≤◌, ◌^◌, Bool, true, false, List, [], ◌∷◌, length, map, None}
use Rattle.clv_base.specs.Journals.{History}
use Rattle.io_model.specs.Disk.{Rose}
use Rattle.cluster_turns.specs.Dates.{latest}
use Rattle.script_lang.specs.Bodies.{Body}
use Rattle.cluster_runs.specs.PromisedSessions.{Went, Begun}
use Rattle.command_line.specs.declared.status.Status.{Status}
use Rattle.command_line.specs.declared.status.Status.TheVariants.{Fine, Usage, Script, ReadFault, WriteFault, DiskFault, NotLog, Memory, Worn, Exists, Apart, WrongTransaction, WrongMap, Unsettled}

-- the counts of the first disks stand
abbrev pub CountsStand : ℕ → (ℕ → ℕ) → (ℕ → ℕ) → Type 0
CountsStand count counts counts_now = (n : ℕ) → n < count → counts_now n ≡ counts n

-- the transactions of a script
abbrev pub transactions : List (List Body) → ℕ
transactions [] = 0
transactions (bodies ∷ script) = length bodies + transactions script

-- the greatest stamp of a history's entries, 0 where there is none
abbrev pub last_stamp : History → ℕ
last_stamp h = latest (map (λ e. e.1) h)

-- stamps came to their end: an entry has one so near it that no more than the script's transactions and the history's entries are between
abbrev pub AreWorn : List (List Body) → History → Type 0
AreWorn script h = 2 ^ 48 - 1 ≤ last_stamp h + (transactions script + length h)

-- fine: no disk failed, and all sessions went through; a disk's fault: it failed, and none below it; worn: no disk failed, the number is the first past the
-- bound of stamps, and they came to their end; want of memory: no disk failed
abbrev pub StatusTold : ℕ → (ℕ → ℕ) → (ℕ → ℕ) → List (List Body) → History → (ℕ → Went) → Status → Type 0
StatusTold shards counts counts_now script h went Fine = CountsStand shards counts counts_now × ((k : ℕ) → k < length script → went k ≡ Begun None)
StatusTold shards counts counts_now script h went (DiskFault shard) = (shard < shards) × Rose (counts shard) (counts_now shard) × CountsStand shard counts counts_now
StatusTold shards counts counts_now script h went (Worn at) = (at ≡ 2 ^ 48) × AreWorn script h × CountsStand shards counts counts_now
StatusTold shards counts counts_now script h went Memory = CountsStand shards counts counts_now
StatusTold shards counts counts_now script h went Usage = ⊥
StatusTold shards counts counts_now script h went (Script line) = ⊥
StatusTold shards counts counts_now script h went ReadFault = ⊥
StatusTold shards counts counts_now script h went WriteFault = ⊥
StatusTold shards counts counts_now script h went (NotLog shard at) = ⊥
StatusTold shards counts counts_now script h went (Exists shard len) = ⊥
StatusTold shards counts counts_now script h went (Apart tx) = ⊥
StatusTold shards counts counts_now script h went (WrongTransaction place) = ⊥
StatusTold shards counts counts_now script h went (WrongMap key) = ⊥
StatusTold shards counts counts_now script h went (Unsettled count) = ⊥

-- the same of disks alone, whatever the sessions were
abbrev pub DisksTold : ℕ → (ℕ → ℕ) → (ℕ → ℕ) → Status → Type 0
DisksTold shards counts counts_now Fine = CountsStand shards counts counts_now
DisksTold shards counts counts_now (DiskFault shard) = (shard < shards) × Rose (counts shard) (counts_now shard) × CountsStand shard counts counts_now
DisksTold shards counts counts_now (Worn at) = (at ≡ 2 ^ 48) × CountsStand shards counts counts_now
DisksTold shards counts counts_now Memory = CountsStand shards counts counts_now
DisksTold shards counts counts_now Usage = ⊥
DisksTold shards counts counts_now (Script line) = ⊥
DisksTold shards counts counts_now ReadFault = ⊥
DisksTold shards counts counts_now WriteFault = ⊥
DisksTold shards counts counts_now (NotLog shard at) = ⊥
DisksTold shards counts counts_now (Exists shard len) = ⊥
DisksTold shards counts counts_now (Apart tx) = ⊥
DisksTold shards counts counts_now (WrongTransaction place) = ⊥
DisksTold shards counts counts_now (WrongMap key) = ⊥
DisksTold shards counts counts_now (Unsettled count) = ⊥

-- which shards' flushes failed: a disk's fault is of the lowest one, and at any other status none did
abbrev pub FlushesTold : ℕ → (ℕ → Bool) → Status → Type 0
FlushesTold shards failed (DiskFault shard) = (failed shard ≡ true) × ((n : ℕ) → n < shard → failed n ≡ false)
FlushesTold shards failed status = (n : ℕ) → n < shards → failed n ≡ false
