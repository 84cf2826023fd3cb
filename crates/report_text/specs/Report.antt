-- The report of a history, and the pairs of a map, as bytes.
use Rattle.std.specs.Prelude.{◌≡◌, ℕ, List, [], ◌∷◌, ◌++◌}
use Rattle.std.specs.List.Sorted.{IsPermutation}
use Rattle.clv_base.specs.Maps.{KeyMap}
use Rattle.clv_base.specs.Journals.{History}
use Rattle.session_books.specs.declared.books.Row.{Row}
use Rattle.session_books.specs.declared.counts.Counts.{Counts}
use Rattle.session_books.specs.Counts.{counts_in}
use Rattle.session_books.specs.Books.{Book, rows}
use Rattle.session_books.specs.Laws.{all_rows, all_counts, AreByPlace}
use Rattle.report_text.specs.Lines.{line, pair, transaction}
use Rattle.report_text.specs.Counts.{summary}

-- a line for each row
abbrev pub row_lines : List Row → List ℕ
row_lines [] = []
row_lines (r ∷ rs) = line (transaction r.tx r.ops) ++ row_lines rs

-- and then the counts
abbrev pub report_lines : List Row → Counts → List ℕ
report_lines rs c = row_lines rs ++ line (summary c)

-- the report: a line for each acknowledged transaction, in the order of the requests, then the counts
abbrev pub report : History → List ℕ
report h = report_lines (rows h) (counts_in h h)

-- what books tell: the rows of all, by the places of the requests, and the sum of the counts
pub record IsReportOf (books : List Book) (text : List ℕ) : Type 0 where
  pub told : List Row
  pub of_all : IsPermutation (all_rows books) told
  pub by_place : AreByPlace told
  pub text_is : text ≡ report_lines told (all_counts books)

-- a line for each pair, by rising keys
abbrev pub pairs_text : KeyMap → List ℕ
pairs_text [] = []
pairs_text (p ∷ ps) = line (pair p) ++ pairs_text ps
