-- The books of all sessions make the report.
use Rattle.std.specs.Prelude.{◌≡◌, ⊤, ℕ, suc, ◌+◌, ◌<◌, List, [], ◌∷◌, ◌++◌, filter, length}
use Rattle.std.specs.List.Sorted.{IsPermutation, IsSortedByKey}
use Rattle.std.specs.declared.cmp.Ordering.{Ordering}
use Rattle.std.specs.Ordering.{nat_cmp, ordering_then}
use Rattle.clv_base.specs.declared.names.Point.{Point}
use Rattle.clv_base.specs.declared.logs.LogRecord.{LogRecord}
use Rattle.clv_base.specs.Journals.{History, own}
use Rattle.clv_base.specs.History.{Legal}
use Rattle.clv_base.specs.Sessions.{is_of_session}
use Rattle.session_books.specs.declared.books.Row.{Row}
use Rattle.session_books.specs.declared.counts.Counts.{Counts}
use Rattle.session_books.specs.Counts.{nothing_counted, counts_in}
use Rattle.session_books.specs.Books.{Book, IsBook, rows}

-- places, by stamp, then shard
abbrev pub point_cmp : Point → Point → Ordering
point_cmp a b = ordering_then (nat_cmp a.stamp b.stamp) (nat_cmp a.shard b.shard)

-- those of a walker's entries that only sessions make
abbrev pub session_part : ℕ → History → History
session_part w h = filter (λ e. is_of_session (e.1).event) (own w h)

-- the books of walkers, one after another, from this one on
abbrev pub AreBooks : History → ℕ → List Book → Type 0
AreBooks h w [] = ⊤
AreBooks h w (book ∷ books) = IsBook (session_part w h) book × AreBooks h (suc w) books

-- their rows, and the sum of their counts
abbrev pub all_rows : List Book → List Row
all_rows [] = []
all_rows (book ∷ books) = book.rows ++ all_rows books

abbrev pub plus : Counts → Counts → Counts
plus a b = record { acknowledged = a.acknowledged + b.acknowledged; unsettled = a.unsettled + b.unsettled; aborted = a.aborted + b.aborted }

abbrev pub all_counts : List Book → Counts
all_counts [] = nothing_counted
all_counts (book ∷ books) = plus book.counts (all_counts books)

-- rows by the places of their requests
abbrev pub AreByPlace : List Row → Type 0
AreByPlace rs = IsSortedByKey (λ r. r.point) point_cmp rs

-- where the walkers from 1 on kept these books, and no other one made what only sessions make: their rows by place are the history's rows, and
-- the sum of their counts is that of the history
abbrev pub BooksMakeTheReport : Type 0
BooksMakeTheReport =
    (splits : List ℕ) (before : List (List LogRecord)) (h : History) (after : List (List LogRecord)) (books : List Book) (rs : List Row) → Legal splits before h after → AreBooks h 1 books
    → ((w : ℕ) → length books < w → session_part w h ≡ []) → IsPermutation (all_rows books) rs → AreByPlace rs → (rs ≡ rows h) × (all_counts books ≡ counts_in h h)
