-- How tries are kept in a session's book.
use Rattle.std.specs.Prelude.{◌≡◌, ℕ, Bool, true, false, cond, List, [], ◌∷◌, ◌++◌, Option, Some, None, Result}
use Rattle.clv_base.specs.declared.names.TxId.{TxId}
use Rattle.clv_base.specs.declared.names.Birth.{Birth}
use Rattle.clv_base.specs.declared.names.Point.{Point}
use Rattle.script_lang.specs.declared.actions.Ending.{Ending}
use Rattle.script_lang.specs.declared.actions.Ending.TheVariants.{Commit, Abort}
use Rattle.script_lang.specs.Bodies.{Body}
use Rattle.session_books.specs.Done.{Done}
use Rattle.session_books.specs.declared.books.Row.{Row}
use Rattle.session_books.specs.Books.{Book, rows}
use Rattle.script_runs.specs.declared.ends.StopCause.{StopCause}
use Rattle.script_runs.specs.declared.ends.TryEnd.{TryEnd}
use Rattle.script_runs.specs.declared.ends.TryEnd.TheVariants.{Acknowledged, Empty, Asked, Aborted, Stopped}
use Rattle.script_runs.specs.declared.fates.Fate.{Fate}
use Rattle.script_runs.specs.Seen.{Standing, Idle, Active, Seen, Misses, IsTouching}
use Rattle.script_runs.specs.Seen as seen
use Rattle.script_runs.specs.Told.{CommitTold, GivenUp, LineAborts}
use Rattle.script_runs.specs.Tried.{Tried}
use Rattle.script_runs.specs.Ran.{InTriesTold, stop_in}
use Rattle.script_runs.specs.Books.{is_acknowledged, fate_by, fate_of, fate_in, rows_by}

-- whether the active transaction touched a shard; one that is over did
abbrev pub TouchedBy : Standing → Bool → Type 0
TouchedBy (Idle again) some = some ≡ true
TouchedBy (Active tx birth nth touched) some = IsTouching touched some
TouchedBy seen.Asked some = some ≡ true

-- whether its request stands without an answer
abbrev pub is_asked : Standing → Bool
is_asked (Idle again) = false
is_asked (Active tx birth nth touched) = false
is_asked seen.Asked = true

-- as what a try is counted, if it made an operation
abbrev pub fate_told : Bool → TryEnd → Bool → Option Fate
fate_told some end asked = cond some (Some (fate_by (is_acknowledged end) asked)) None

-- the row of an acknowledged one
abbrev pub row_told : TryEnd → TxId → Point → List Done → List Row
row_told Acknowledged tx point ops = record { tx = tx; point = point; ops = ops } ∷ []
row_told Empty tx point ops = []
row_told Asked tx point ops = []
row_told (Aborted cause) tx point ops = []
row_told (Stopped cause) tx point ops = []

-- the book has these rows more, and keeps them or not as before
pub record AddsRows (more : List Row) (old new : Book) : Type 0 where
  pub rows_are : new.rows ≡ old.rows ++ more
  pub counts_are : new.counts ≡ old.counts
  pub keeps_same : new.keeps ≡ old.keeps

-- a commit, what is given up behind it, and its row
pub record CommitKept (missed : Misses) (tx : TxId) (birth : Birth) (nth : ℕ) (touched : ℕ → Bool) (ops : List Done) (end : TryEnd) (asked : Bool) (old new : Book) (u v : Seen) : Type 0 where
  pub now : Seen
  pub told : CommitTold tx birth nth touched end u now
  pub given : GivenUp missed end now v
  pub asked_is : asked ≡ is_asked now.standing
  pub adds : AddsRows (row_told end tx now.asked ops) old new

-- the end that its lines ask for
abbrev pub EndKept : Misses → TxId → Birth → ℕ → (ℕ → Bool) → List Done → Ending → TryEnd → Bool → Book → Book → Seen → Seen → Type 0
EndKept missed tx birth nth touched ops Commit end asked old new u v = CommitKept missed tx birth nth touched ops end asked old new u v
EndKept missed tx birth nth touched ops Abort end asked old new u v = LineAborts missed tx birth touched end u v × (asked ≡ false) × AddsRows [] old new

-- and as what the try is counted
pub record EndMade (missed : Misses) (tx : TxId) (birth : Birth) (nth : ℕ) (touched : ℕ → Bool) (ops : List Done) (ending : Ending) (end : TryEnd) (fate : Option Fate) (old new : Book) (u v : Seen) : Type 0 where
  pub some : Bool
  pub touching : IsTouching touched some
  pub asked : Bool
  pub fate_is : fate ≡ fate_told some end asked
  pub ended : EndKept missed tx birth nth touched ops ending end asked old new u v

-- the try's rows are in the book, and it is counted so
pub record TriedKept (missed : Misses) (body : Body) (tx : TxId) (birth : Birth) (end : TryEnd) (fate : Option Fate) (old new : Book) (u v : Seen) : Type 0 where
  pub tried : Tried missed body tx birth end u v
  pub fate_is : fate ≡ fate_of tx end tried.entries
  pub adds : AddsRows (rows tried.entries) old new

-- so are those of all tries of a transaction, and it is counted so
pub record TriesKept {A : Type 0} (missed : Misses) (body : Body) (first : TxId) (birth : Birth) (most : Option ℕ) (ended : Result A StopCause) (fate : Option Fate) (old new : Book) (u v : Seen) : Type 0 where
  pub told : InTriesTold missed body first birth most (stop_in ended) u v
  pub fate_is : fate ≡ fate_in told.tries
  pub adds : AddsRows (rows_by told.tries) old new
