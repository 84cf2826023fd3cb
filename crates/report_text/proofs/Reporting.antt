-- The report of books is the history's.
use Rattle.std.proofs.Common.{ℕ, ap₂, subst, ◌∙◌, List, Option, Result, Ok, Err}
use Rattle.std.specs.Prelude.{⊤}
use Rattle.clv_base.specs.declared.logs.LogRecord.{LogRecord}
use Rattle.clv_base.specs.Journals.{History}
use Rattle.session_books.specs.Books.{Book}
use Rattle.session_books.specs.Laws.{BooksMakeTheReport}
use Rattle.report_text.specs.declared.texts.ReportError.{ReportError}
use Rattle.report_text.specs.declared.texts.ReportError.TheVariants.{Failed, Memory}
use Rattle.report_text.specs.Report.{report, report_lines, IsReportOf}
use Rattle.report_text.specs.Sinks.{TakesText}
use Rattle.report_text.specs.Laws.{AreAllBooks, BooksReport, BooksAreReported}

module _ (law : BooksMakeTheReport) where
  pub one_text : BooksReport
  one_text splits before h after books text a r =
      let m = law splits before h after books r.told a.legal a.kept a.no_other r.of_all r.by_place in r.text_is ∙ ap₂ report_lines m.0 m.1

  taken : (splits : List ℕ) (before : List (List LogRecord)) (h : History) (after : List (List LogRecord)) (books : List Book) → AreAllBooks splits before h after books
      → (old new : Option (List ℕ)) (result : Result ⊤ ReportError) → (t : (text : List ℕ) × IsReportOf books text × TakesText old new text result) → TakesText old new (report h) result
  taken splits before h after books a old new result t = subst (λ text. TakesText old new text result) (one_text splits before h after books t.0 a t.1) t.2

  pub one_taken : BooksAreReported
  one_taken splits before h after books a old new (Ok u) t = taken splits before h after books a old new (Ok u) t
  one_taken splits before h after books a old new (Err Failed) t = taken splits before h after books a old new (Err Failed) t
  one_taken splits before h after books a old new (Err Memory) t = t
