-- What a sink takes of a text, and when it fails.
use Rattle.std.specs.Prelude.{◌≡◌, ◌≤◌, ℕ, List, take, Option, Result, Ok, Err}
use Rattle.io_model.specs.Disk.{Rose}
use Rattle.io_model.specs.Streams.{Grows}
use Rattle.session_books.specs.Books.{Book}
use Rattle.report_text.specs.declared.texts.ReportError.{ReportError}
use Rattle.report_text.specs.declared.texts.ReportError.TheVariants.{Failed, Memory}
use Rattle.report_text.specs.Report.{IsReportOf}

-- all of the text was taken; after `Failed` some of it, the first bytes first; after `Memory` nothing
abbrev pub TakesText : {A : Type 0} → Option (List ℕ) → Option (List ℕ) → List ℕ → Result A ReportError → Type 0
TakesText old new text (Ok a) = Grows old new text
TakesText old new text (Err Failed) = (n : ℕ) × Grows old new (take n text)
TakesText old new text (Err Memory) = new ≡ old

-- `Failed` comes only where the count rose, and after every other answer it stands
abbrev pub Causes : {A : Type 0} → ℕ → ℕ → Result A ReportError → Type 0
Causes before now (Ok a) = now ≡ before
Causes before now (Err Failed) = Rose before now × (before ≤ now)
Causes before now (Err Memory) = now ≡ before

-- all of the books' report was taken, or some of it, the first bytes first; after `Memory` nothing
abbrev pub TakesReport : {A : Type 0} → Option (List ℕ) → Option (List ℕ) → List Book → Result A ReportError → Type 0
TakesReport old new books (Err Memory) = new ≡ old
TakesReport old new books result = (text : List ℕ) × IsReportOf books text × TakesText old new text result
