-- A house of disks in memory.
use Rattle.std.specs.Prelude.{◌≡◌, ◌+◌, ◌-◌, ◌^◌, ℕ, zero, suc, min, List, Bool, true, false, Option, Some, None, Result, Ok, Err, slice_get}
use Rattle.io_model.specs.Story.{Story}
use Rattle.disk_memory.specs.declared.memory.MemoryDisk.{MemoryDisk}
use Rattle.disk_memory.specs.declared.house.Slot.{Slot}
use Rattle.disk_memory.specs.declared.house.State.{State}
use Rattle.disk_memory.specs.declared.house.State.TheVariants.{Absent, In, Out}

abbrev pub is_out_state : State → Bool
is_out_state Absent = false
is_out_state (In disk) = false
is_out_state Out = true

abbrev pub story_in_state : State → Option Story
story_in_state Absent = None
story_in_state (In disk) = Some disk.story
story_in_state Out = None

-- by the side's number
abbrev pub state_by : Slot → ℕ → State
state_by slot zero = slot.side0
state_by slot (suc n) = slot.side1

abbrev pub faults_of : Option Slot → ℕ
faults_of None = 0
faults_of (Some slot) = slot.faults

abbrev pub is_out_of : ℕ → Option Slot → Bool
is_out_of side None = false
is_out_of side (Some slot) = is_out_state (state_by slot side)

abbrev pub story_of_slot : ℕ → Option Slot → Option Story
story_of_slot side None = None
story_of_slot side (Some slot) = story_in_state (state_by slot side)

-- by shard, and by its side
abbrev pub faults_at : List Slot → ℕ → ℕ
faults_at slots shard = faults_of (slice_get slots shard)

abbrev pub is_out_at : List Slot → ℕ → ℕ → Bool
is_out_at slots shard side = is_out_of side (slice_get slots shard)

abbrev pub story_at : List Slot → ℕ → ℕ → Option Story
story_at slots shard side = story_of_slot side (slice_get slots shard)

-- a side's disk goes out, or the side has none
abbrev pub GoesOut : {E : Type 0} → ℕ → Slot → Slot → Result MemoryDisk E → Type 0
GoesOut side old new (Ok disk) =
    (disk.faults ≡ 0) × (Some disk.story ≡ story_in_state (state_by old side)) × (new.faults ≡ old.faults) × (is_out_state (state_by new side) ≡ true)
GoesOut side old new (Err e) =
    (new.faults ≡ min (old.faults + 1) (2 ^ 64 - 1)) × (is_out_state (state_by new side) ≡ false) × (story_in_state (state_by new side) ≡ story_in_state (state_by old side))

-- the disk stands on this side, and the other side stays
abbrev pub Settles : ℕ → MemoryDisk → Slot → Slot → Type 0
Settles side disk old new = (state_by new side ≡ In disk) × (state_by new (1 - side) ≡ state_by old (1 - side))
