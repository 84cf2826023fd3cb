-- The story of a disk in memory: its notes in order, and the bytes that were written, one after another.
use Rattle.std.specs.Prelude.{ℕ, ◌+◌, List, [], ◌∷◌, ◌++◌, length, take, drop}
use Rattle.io_model.specs.Story.{Call, Len as Length_call, Read as Read_call, Write as Write_call, Cut as Cut_call, Sync as Sync_call, Write_failed, Cut_failed, Sync_failed, reads_after}
use Rattle.disk_memory.specs.declared.noted.Noted.{Noted}
use Rattle.disk_memory.specs.declared.noted.Noted.TheVariants.{Len, Read, Write, Cut, Sync, FailedWrite, FailedCut, FailedSync}

-- how many of the written bytes belong to a note
abbrev pub size : Noted → ℕ
size Len = 0
size (Read at count) = 0
size (Write at count) = count
size (Cut len) = 0
size Sync = 0
size (FailedWrite at count) = 0
size (FailedCut len) = 0
size FailedSync = 0

abbrev pub total : List Noted → ℕ
total [] = 0
total (note ∷ notes) = size note + total notes

-- the call that a note stands for, after these; a call that failed left what a read gave
abbrev pub call_of : List ℕ → List Call → Noted → List ℕ → Call
call_of start calls Len written = Length_call
call_of start calls (Read at count) written = Read_call at count
call_of start calls (Write at count) written = Write_call at (take count written)
call_of start calls (Cut len) written = Cut_call len
call_of start calls Sync written = Sync_call
call_of start calls (FailedWrite at count) written = Write_failed at count (reads_after start calls)
call_of start calls (FailedCut len) written = Cut_failed len (reads_after start calls)
call_of start calls FailedSync written = Sync_failed

-- the calls, the newest first, after those of the notes too
abbrev pub calls_after : List ℕ → List Call → List Noted → List ℕ → List Call
calls_after start calls [] written = calls
calls_after start calls (note ∷ notes) written = calls_after start (call_of start calls note written ∷ calls) notes (drop (size note) written)

-- the note of a call
abbrev pub note_of : Call → Noted
note_of Length_call = Len
note_of (Read_call at count) = Read at count
note_of (Write_call at bytes) = Write at (length bytes)
note_of (Cut_call len) = Cut len
note_of Sync_call = Sync
note_of (Write_failed at count left) = FailedWrite at count
note_of (Cut_failed len left) = FailedCut len
note_of Sync_failed = FailedSync

-- the notes of a list of calls, the oldest first
abbrev pub notes_of : List Call → List Noted
notes_of [] = []
notes_of (call ∷ calls) = notes_of calls ++ note_of call ∷ []
