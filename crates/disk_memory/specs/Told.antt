-- What a disk in memory tells.
use Rattle.std.specs.Prelude.{◌≡◌, ◌≤◌, ◌<◌, ◌+◌, ◌*◌, ℕ, List, [], length}
use Rattle.io_model.specs.Story.{Story, reads_after}
use Rattle.disk_memory.specs.declared.noted.Noted.{Noted}
use Rattle.disk_memory.specs.declared.noted.Noted.TheVariants.{Len, Read, Write, Cut, Sync, FailedWrite, FailedCut, FailedSync}
use Rattle.disk_memory.specs.Noted.{total, calls_after}

abbrev pub story_of : List ℕ → List Noted → List ℕ → Story
story_of start notes written = record { start = start; calls = calls_after start [] notes written }

-- a call that leaves what a read gives, and writes nothing
abbrev pub IsQuiet : Noted → Type 0
IsQuiet Len = Unit {0}
IsQuiet (Read at count) = Unit {0}
IsQuiet (Write at count) = ⊥
IsQuiet (Cut len) = ⊥
IsQuiet Sync = Unit {0}
IsQuiet (FailedWrite at count) = Unit {0}
IsQuiet (FailedCut len) = Unit {0}
IsQuiet FailedSync = Unit {0}

-- what users of a tape see: its story, and how much it takes
pub record View : Type 0 where
  pub story : Story
  pub room : ℕ

-- the bytes are those that a read gives, the written ones are those of the notes, and all fits the room that was taken
pub record IsSound (start bytes written : List ℕ) (notes : List Noted) (room bytes_room written_room notes_room : ℕ) : Type 0 where
  pub told : bytes ≡ reads_after start (calls_after start [] notes written)
  pub shares : total notes ≡ length written
  pub fits : length bytes + length written + 24 * length notes ≤ room
  pub for_bytes : room ≤ bytes_room
  pub for_written : room ≤ written_room
  pub for_notes : room < 24 * (notes_room + 1)
