-- The report of books is the report of the history.
use Rattle.std.specs.Prelude.{◌≡◌, ⊤, ℕ, ◌<◌, List, [], length, Option, Result}
use Rattle.clv_base.specs.declared.logs.LogRecord.{LogRecord}
use Rattle.clv_base.specs.Journals.{History}
use Rattle.clv_base.specs.History.{Legal}
use Rattle.session_books.specs.Books.{Book}
use Rattle.session_books.specs.Laws.{session_part, AreBooks}
use Rattle.report_text.specs.declared.texts.ReportError.{ReportError}
use Rattle.report_text.specs.Report.{report, IsReportOf}
use Rattle.report_text.specs.Sinks.{TakesText, TakesReport}

-- the walkers from 1 on kept these books in the history, and no other one made what only sessions make
pub record AreAllBooks (splits : List ℕ) (before : List (List LogRecord)) (h : History) (after : List (List LogRecord)) (books : List Book) : Type 0 where
  pub legal : Legal splits before h after
  pub kept : AreBooks h 1 books
  pub no_other : (w : ℕ) → length books < w → session_part w h ≡ []

abbrev pub BooksReport : Type 0
BooksReport =
    (splits : List ℕ) (before : List (List LogRecord)) (h : History) (after : List (List LogRecord)) (books : List Book) (text : List ℕ) → AreAllBooks splits before h after books
    → IsReportOf books text → text ≡ report h

abbrev pub BooksAreReported : Type 0
BooksAreReported =
    (splits : List ℕ) (before : List (List LogRecord)) (h : History) (after : List (List LogRecord)) (books : List Book) → AreAllBooks splits before h after books
    → (old new : Option (List ℕ)) (result : Result ⊤ ReportError) → TakesReport old new books result → TakesText old new (report h) result
