-- What a crash leaves of a disk in memory, by choice.
use Rattle.std.specs.Prelude.{ℕ, ◌-◌, List, [], ◌∷◌, ◌++◌, length, take, drop, replicate}
use Rattle.io_model.specs.Story.{Call, Len, Read, Write, Cut, Sync, Write_failed, Cut_failed, Sync_failed, Story, put, reads, reads_after}
use Rattle.disk_memory.specs.declared.noted.Choice.{Choice}
use Rattle.disk_memory.specs.declared.noted.Choice.TheVariants.{Before, Written, Fill}

-- what a read gave at the last sync
abbrev pub synced : List ℕ → List Call → List ℕ
synced start [] = start
synced start (Len ∷ calls) = synced start calls
synced start (Read at count ∷ calls) = synced start calls
synced start (Write at bytes ∷ calls) = synced start calls
synced start (Cut len ∷ calls) = synced start calls
synced start (Sync ∷ calls) = reads_after start calls
synced start (Write_failed at count left ∷ calls) = synced start calls
synced start (Cut_failed len left ∷ calls) = synced start calls
synced start (Sync_failed ∷ calls) = synced start calls

-- what a range that was written holds, where a sync left base: the bytes from before it, with zeros past the end, or one byte
abbrev pub filler : Choice → List ℕ → ℕ → ℕ → List ℕ
filler Before base at count = take count (drop at base) ++ replicate (count - length (take count (drop at base))) 0
filler Written base at count = replicate count 0
filler (Fill byte) base at count = replicate count byte

-- the replay of the calls, each range filled so
abbrev pub filled : Choice → List ℕ → List Call → List ℕ
filled choice start [] = start
filled choice start (Len ∷ calls) = filled choice start calls
filled choice start (Read at count ∷ calls) = filled choice start calls
filled choice start (Write at bytes ∷ calls) = put (filled choice start calls) at (filler choice (synced start calls) at (length bytes))
filled choice start (Cut len ∷ calls) = take len (filled choice start calls)
filled choice start (Sync ∷ calls) = reads_after start calls
filled choice start (Write_failed at count left ∷ calls) = put (filled choice start calls) at (filler choice (synced start calls) at count)
filled choice start (Cut_failed len left ∷ calls) = filled choice start calls
filled choice start (Sync_failed ∷ calls) = filled choice start calls

-- what a crash leaves, by choice
abbrev pub left_by : Choice → Story → List ℕ
left_by Before s = filled Before s.start s.calls
left_by Written s = reads s
left_by (Fill byte) s = filled (Fill byte) s.start s.calls
