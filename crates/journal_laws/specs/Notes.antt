-- What a shard notes for its lock: each entry with the log that a restart left, and who took the disk of a shard that is down. A list of notes tells the
-- state after it; a list of entries does not, as a restart's entry does not tell whether it found the records in flight.
use Rattle.std.specs.Prelude.{◌≡◌, ⊤, ℕ, Bool, true, false, cond, ◌==◌, List, [], ◌∷◌, ◌++◌, length, Option, Some, None}
use Rattle.std.specs.List.{filter}
use Rattle.clv_base.specs.declared.logs.LogRecord.{LogRecord}
use Rattle.clv_base.specs.declared.values.Value.TheVariants.{Num}
use Rattle.clv_base.specs.declared.ops.Op.TheVariants.{Put}
use Rattle.clv_base.specs.declared.events.Event.{Event}
use Rattle.clv_base.specs.declared.events.Event.TheVariants.{Op, Request, FlushOut, FlushIn, Restart}
use Rattle.clv_base.specs.declared.events.Entry.{Entry}
use Rattle.clv_base.specs.declared.events.CoreStep.{CoreStep}
use Rattle.clv_base.specs.State.{Shard}
use Rattle.clv_base.specs.Restarts.{log_left}
use Rattle.clv_base.specs.Journals.{after_entry, MayLeave}
use Rattle.clv_base.specs.Core.{World}
use Rattle.clv_base.specs.Runs.{run_events}
use Rattle.clv_base.specs.Machines.{Makes, Runs}
use Rattle.journal_laws.specs.Walkers.{by_walker}
use Rattle.journal_laws.specs.Worlds.{shard_at}

-- an entry, of a restart with the log after it; or a walker took the disk
pub data Note : Type 0 where
  made : (entry : Entry) (log : List LogRecord) → Note
  fetched : (walker : ℕ) → Note

abbrev pub maker_of : Note → ℕ
maker_of (made e log) = e.walker
maker_of (fetched w) = w

abbrev pub entries_of_notes : List Note → List Entry
entries_of_notes [] = []
entries_of_notes (made e log ∷ ns) = e ∷ entries_of_notes ns
entries_of_notes (fetched w ∷ ns) = entries_of_notes ns

abbrev pub notes_by : ℕ → List Note → List Note
notes_by walker ns = filter (λ n. maker_of n == walker) ns

-- the state after them
abbrev pub after_note : Shard → Note → Shard
after_note s (made e log) = after_entry log s e
after_note s (fetched w) = s

abbrev pub after_notes : Shard → List Note → Shard
after_notes s [] = s
after_notes s (n ∷ ns) = after_notes (after_note s n) ns

-- who has the disk: from where it was taken up to the restart
abbrev pub ends_holding : Event → Bool
ends_holding Restart = true
ends_holding _ = false

abbrev pub holder_after : Option ℕ → Note → Option ℕ
holder_after held (made e log) = cond (ends_holding e.event) None held
holder_after held (fetched w) = Some w

abbrev pub holder : Option ℕ → List Note → Option ℕ
holder held [] = held
holder held (n ∷ ns) = holder (holder_after held n) ns

-- who has the disk restarts the shard
abbrev pub RestartsByHolder : Option ℕ → ℕ → Event → Type 0
RestartsByHolder held walker Restart = held ≡ Some walker
RestartsByHolder held walker _ = ⊤

-- which note may come next
abbrev pub MayNote : Shard → Option ℕ → Note → Type 0
MayNote s held (made e log) = Makes s e (after_entry log s e) × RestartsByHolder held e.walker e.event
MayNote s held (fetched w) = (s.is_up ≡ false) × (held ≡ None)

abbrev pub MayNotes : Shard → Option ℕ → List Note → Type 0
MayNotes s held [] = ⊤
MayNotes s held (n ∷ ns) = MayNote s held n × MayNotes (after_note s n) (holder_after held n) ns

-- the entries of notes are a run to the state that the notes tell
abbrev pub NotesAreRuns : Type 0
NotesAreRuns = (s : Shard) (held : Option ℕ) (ns : List Note) → MayNotes s held ns → Runs s (entries_of_notes ns) (after_notes s ns)

abbrev pub NotesGoOn : Type 0
NotesGoOn = (s : Shard) (held : Option ℕ) (ns : List Note) (n : Note) → MayNotes s held ns → MayNote (after_notes s ns) (holder held ns) n → MayNotes s held (ns ++ n ∷ [])

-- what a pass has seen, and what came after
abbrev pub NotesAreSeen : Type 0
NotesAreSeen =
    (s : Shard) (held : Option ℕ) (seen later : List Note) → MayNotes s held (seen ++ later)
    → MayNotes s held seen × MayNotes (after_notes s seen) (holder held seen) later × (after_notes s (seen ++ later) ≡ after_notes (after_notes s seen) later)

-- a walker's entries are those of its notes
abbrev pub NotesAreShared : Type 0
NotesAreShared = (walker : ℕ) (ns : List Note) → by_walker walker (entries_of_notes ns) ≡ entries_of_notes (notes_by walker ns)

-- while a walker has a shard's disk nothing is noted there but by it
abbrev pub HeldShardsRest : Type 0
HeldShardsRest = (s : Shard) (walker : ℕ) (ns : List Note) → s.is_up ≡ false → MayNotes s (Some walker) ns → notes_by walker ns ≡ [] → ns ≡ []

-- ---- entries alone do not tell the state, nor which logs may stand on a disk

abbrev pub core_step : ℕ → Event → Bool → CoreStep
core_step walker e kept = record { walker = walker; shard = 0; event = e; kept = kept }

abbrev pub put : ℕ → ℕ → Option ℕ → ℕ → Event
put session nth seen key =
    Op (record { run = 1; session = session; serial = 1 }) (record { stamp = session; session = session; serial = 1 }) nth seen (Put key (Num 10))

abbrev pub asks_for : ℕ → ℕ → Event
asks_for session epoch = Request (record { run = 1; session = session; serial = 1 }) ((0, epoch) ∷ [])

-- the first transaction's writes are durable, and its COMMIT is in flight with a write of the second one as the flush fails. The restart finds these or
-- doesn't. Then the third one's flush fails too
abbrev pub found_or_not : Bool → List CoreStep
found_or_not found =
    core_step 1 (put 1 1 None 1) true ∷ core_step 1 (put 1 2 (Some 0) 2) true ∷ core_step 1 (put 1 3 (Some 0) 3) true ∷ core_step 1 FlushOut true ∷ core_step 1 FlushIn true
    ∷ core_step 1 (asks_for 1 0) true ∷ core_step 2 (put 2 1 None 9) true ∷ core_step 2 FlushOut true ∷ core_step 2 FlushIn false ∷ core_step 1 Restart found
    ∷ core_step 3 (put 3 1 None 20) true ∷ core_step 3 (asks_for 3 1) true ∷ core_step 3 FlushOut true ∷ core_step 3 FlushIn false ∷ []

abbrev pub world_found : World
world_found = run_events [] (found_or_not true)

abbrev pub world_lost : World
world_lost = run_events [] (found_or_not false)

-- both make the same entries, and a log that the one shard may leave is none of the other's
abbrev pub EntriesDoNotTell : Type 0
EntriesDoNotTell =
    (world_found.history ≡ world_lost.history) × (length world_found.history ≡ 14) × MayLeave (shard_at world_found 0) (log_left (shard_at world_found 0) false)
    × (MayLeave (shard_at world_lost 0) (log_left (shard_at world_found 0) false) → ⊥)
