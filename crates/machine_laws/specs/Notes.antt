-- The notes of a shard, from its journal and the marks beside it.
use Rattle.std.specs.Prelude.{◌≡◌, ⊤, ℕ, ◌<◌, ◌≤◌, List, [], ◌∷◌, ◌++◌, map, take, drop, length, reverse}
use Rattle.clv_base.specs.declared.logs.LogRecord.{LogRecord}
use Rattle.clv_base.specs.declared.events.Entry.{Entry}
use Rattle.clv_base.specs.Journals.{durable_in}
use Rattle.journal_laws.specs.Notes.{Note as Told, made, fetched}
use Rattle.machine_laws.specs.declared.notes.Note.{Note}
use Rattle.machine_laws.specs.declared.notes.Note.TheVariants.{Made, Fetched}
use Rattle.machine_laws.specs.declared.notes.Mark.{Mark}
use Rattle.machine_laws.specs.declared.notes.Mark.TheVariants.{Left, Fetched as FetchedAt}

-- who made a note, and how much it says to be durable
abbrev pub noter : Note → ℕ
noter (Made e log) = e.walker
noter (Fetched w) = w

abbrev pub noted_durable : Note → ℕ
noted_durable (Made e log) = durable_in e.outcome
noted_durable (Fetched w) = 0

abbrev pub told : Note → Told
told (Made e log) = made e log
told (Fetched w) = fetched w

abbrev pub plain : Entry → Note
plain e = Made e []

-- the entries, of which the first is a restart's
abbrev pub with_left : List LogRecord → List Entry → List Note
with_left log [] = []
with_left log (e ∷ es) = Made e log ∷ map plain es

-- the newest mark first
abbrev pub noted : List Entry → List Mark → List Note
noted es [] = map plain es
noted es (Left at log ∷ ms) = noted (take at es) ms ++ with_left log.value.records (drop at es)
noted es (FetchedAt at w ∷ ms) = noted (take at es) ms ++ Fetched w ∷ map plain (drop at es)

abbrev pub notes_of : List Entry → List Mark → List Note
notes_of es marks = noted es (reverse marks)

-- the newest mark stands among the entries
abbrev pub stands_in : List Entry → List Mark → Type 0
stands_in es [] = ⊤
stands_in es (Left at log ∷ ms) = at < length es
stands_in es (FetchedAt at w ∷ ms) = at ≤ length es

abbrev pub AreMarksOf : List Entry → List Mark → Type 0
AreMarksOf es marks = stands_in es (reverse marks)

-- it tells that the next entry's restart left this log
abbrev pub IsLeft : ℕ → List LogRecord → Mark → Type 0
IsLeft count log (Left at left) = (at ≡ count) × (left.value.records ≡ log)
IsLeft count log (FetchedAt at w) = ⊥
