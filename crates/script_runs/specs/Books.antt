-- What tries add to a session's book.
use Rattle.std.specs.Prelude.{◌≡◌, ⊤, ℕ, suc, ◌+◌, ◌<◌, ◌≤◌, Bool, true, false, cond, is_some, List, [], ◌∷◌, ◌++◌, Option, Some, None}
use Rattle.std.specs.List.{AllByRecursion, list_any, list_all}
use Rattle.clv_base.specs.declared.names.TxId.{TxId}
use Rattle.clv_base.specs.declared.names.Birth.{Birth}
use Rattle.clv_base.specs.declared.events.Event.{Event}
use Rattle.clv_base.specs.declared.events.Event.TheVariants.{Op as OpEvent, RollTo, Request, Look}
use Rattle.clv_base.specs.Shards.{are_splits}
use Rattle.clv_base.specs.Journals.{History}
use Rattle.script_lang.specs.Laws.{is_narrow}
use Rattle.script_lang.specs.Bodies.{Body}
use Rattle.session_books.specs.declared.books.Row.{Row}
use Rattle.session_books.specs.Told.{try_of}
use Rattle.session_books.specs.declared.counts.Counts.{Counts}
use Rattle.session_books.specs.Counts.{nothing_counted, counts_in, is_open}
use Rattle.session_books.specs.Books.{Book, IsBook, rows}
use Rattle.script_runs.specs.declared.ends.StopCause.{StopCause}
use Rattle.script_runs.specs.declared.ends.TryEnd.{TryEnd}
use Rattle.script_runs.specs.declared.ends.TryEnd.TheVariants as end
use Rattle.script_runs.specs.declared.fates.Fate.{Fate}
use Rattle.script_runs.specs.declared.fates.Fate.TheVariants.{Acknowledged, Unsettled, Aborted}
use Rattle.script_runs.specs.Tries.{Try, IsTry}
use Rattle.script_runs.specs.Sessions.{Transaction, IsTransaction, entries_of}
use Rattle.script_runs.specs.TriesLaws.{DidItsLines}
use Rattle.script_runs.specs.Seen.{Seen}
use Rattle.script_runs.specs.Told.{place_of}
use Rattle.script_runs.specs.Ran.{Rise, serials}

-- ---- rows

-- the rows of all tries
abbrev pub rows_by : List Try → List Row
rows_by [] = []
rows_by (t ∷ ts) = rows t.entries ++ rows_by ts

-- an acknowledged try has one row: its name, the place of its request, and what it did
abbrev pub AcknowledgedHaveRows : Type 0
AcknowledgedHaveRows =
    (splits : List ℕ) (body : Body) (birth : Birth) (t : Try) → are_splits splits ≡ true → list_all is_narrow body.actions ≡ true → IsTry splits body birth t → t.end ≡ end.Acknowledged
    → (d : DidItsLines splits body birth t) × (rows t.entries ≡ record { tx = t.tx; point = place_of d.asked; ops = t.acts } ∷ [])

-- any other has none
abbrev pub OthersHaveNone : Type 0
OthersHaveNone = (splits : List ℕ) (body : Body) (birth : Birth) (t : Try) → IsTry splits body birth t → (t.end ≡ end.Acknowledged → ⊥) → rows t.entries ≡ []

-- ---- counts

-- whether some entry is of an operation
abbrev pub has_op : History → Bool
has_op es = list_any (λ e. is_some (try_of (e.1).event)) es

abbrev pub is_acknowledged : TryEnd → Bool
is_acknowledged end.Acknowledged = true
is_acknowledged end.Empty = false
is_acknowledged end.Asked = false
is_acknowledged (end.Aborted cause) = false
is_acknowledged (end.Stopped cause) = false

-- as what it is counted, by whether it was acknowledged, and whether its request stands without an answer
abbrev pub fate_by : Bool → Bool → Fate
fate_by true asked = Acknowledged
fate_by false true = Unsettled
fate_by false false = Aborted

-- as what a try is counted that made an operation; any other isn't
abbrev pub fate_of : TxId → TryEnd → History → Option Fate
fate_of tx e es = cond (has_op es) (Some (fate_by (is_acknowledged e) (is_open es tx))) None

-- the second one, where there is no first
abbrev pub else_fate : Option Fate → Option Fate → Option Fate
else_fate None f = f
else_fate (Some g) f = Some g

-- as what all tries of one transaction are counted: as the last one that made an operation
abbrev pub fate_in : List Try → Option Fate
fate_in [] = None
fate_in (t ∷ ts) = else_fate (fate_in ts) (fate_of t.tx t.end t.entries)

-- one more of these
abbrev pub count_as : Option Fate → Counts → Counts
count_as None c = c
count_as (Some Acknowledged) c = record { acknowledged = suc c.acknowledged; unsettled = c.unsettled; aborted = c.aborted }
count_as (Some Unsettled) c = record { acknowledged = c.acknowledged; unsettled = suc c.unsettled; aborted = c.aborted }
count_as (Some Aborted) c = record { acknowledged = c.acknowledged; unsettled = c.unsettled; aborted = suc c.aborted }

-- ---- a session's book

-- what it says is of a transaction with a serial up to this one, and of a birth with a stamp up to this clock
abbrev pub IsUpTo : ℕ → ℕ → Event → Type 0
IsUpTo serial clock (OpEvent tx birth nth seen op) = (tx.serial ≤ serial) × (birth.stamp ≤ clock)
IsUpTo serial clock (RollTo tx nth seen upto) = tx.serial ≤ serial
IsUpTo serial clock (Request tx touched) = tx.serial ≤ serial
IsUpTo serial clock (Look tx) = tx.serial ≤ serial
IsUpTo serial clock _ = ⊤

abbrev pub AreUpTo : ℕ → ℕ → History → Type 0
AreUpTo serial clock es = AllByRecursion (λ e. IsUpTo serial clock (e.1).event) es

-- a transaction with serials and a birth past all earlier ones adds the rows of its tries, and is counted once if they made an operation
abbrev pub TransactionsAddToBooks : Type 0
TransactionsAddToBooks =
    (splits : List ℕ) (run walker : ℕ) (most : Option ℕ) (tr : Transaction) (cause : Option StopCause) (es : History) (serial next clock : ℕ)
    → IsTransaction splits run walker most tr cause → AreUpTo serial clock es → Rise serial (serials tr.tries) next → clock < tr.birth.stamp
    → (rows (es ++ entries_of tr.tries) ≡ rows es ++ rows_by tr.tries)
    × (counts_in (es ++ entries_of tr.tries) (es ++ entries_of tr.tries) ≡ count_as (fate_in tr.tries) (counts_in es es))
    × AreUpTo next tr.birth.stamp (entries_of tr.tries)

abbrev pub total : Counts → ℕ
total c = c.acknowledged + c.unsettled + c.aborted

-- the book tells what the session's entries tell; its counts are no more than the stamps of births
pub record IsKept (u : Seen) (book : Book) : Type 0 where
  pub splits_are : are_splits u.splits ≡ true
  pub is_book : IsBook u.entries book
  pub up_to : AreUpTo u.serial u.clock u.entries
  pub few : total book.counts ≤ u.clock

-- a new book is that of a session that made nothing
abbrev pub NewBooksAreKept : Type 0
NewBooksAreKept = (u : Seen) (book : Book) → are_splits u.splits ≡ true → u.entries ≡ [] → book.rows ≡ [] → book.counts ≡ nothing_counted → IsKept u book
