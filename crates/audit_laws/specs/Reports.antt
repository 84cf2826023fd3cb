-- The report of a run in which nothing is unsettled.
use Rattle.std.specs.Prelude.{◌≡◌, ◌≤◌, ⊤, ℕ, suc, Bool, true, List, [], ◌∷◌, map, length}
use Rattle.clv_base.specs.declared.names.TxId.{TxId}
use Rattle.clv_base.specs.declared.ops.Op.TheVariants.{Scan}
use Rattle.clv_base.specs.declared.ops.Answer.{Answer}
use Rattle.clv_base.specs.declared.logs.LogRecord.{LogRecord}
use Rattle.clv_base.specs.Logs.{stands}
use Rattle.clv_base.specs.Journals.{History}
use Rattle.clv_base.specs.History.{acknowledged_in, logs_left}
use Rattle.history_laws.specs.Openings.{LegalFrom}
use Rattle.session_books.specs.declared.books.Row.{Row}
use Rattle.session_books.specs.declared.told.Told.{Told}
use Rattle.session_books.specs.Done.{Done, Did}
use Rattle.session_books.specs.Told.{told_in}
use Rattle.session_books.specs.Books.{rows}
use Rattle.session_books.specs.Counts.{counts_in}
use Rattle.report_reading.specs.declared.told.ReportedTx.{ReportedTx}
use Rattle.report_reading.specs.declared.told.Reported.{Reported}
use Rattle.clv_audit.specs.declared.verdict.Verdict.TheVariants.{Yes}
use Rattle.clv_audit.specs.Verdicts.{IsVerdict}

-- of two scans, neither of which is empty, the second begins where the first ended
abbrev pub Adjoin : Done → Done → Type 0
Adjoin x y = (lo hi lo2 hi2 : ℕ) (a b : Answer) → x ≡ Did (Scan lo hi) a → y ≡ Did (Scan lo2 hi2) b → (lo ≤ hi) × (lo2 ≡ suc hi) × (lo2 ≤ hi2)

abbrev pub GoesOnBy : Told → List Told → Type 0
GoesOnBy t [] = ⊤
GoesOnBy t (u ∷ us) = t.nth ≡ u.nth → Adjoin t.done u.done

-- the parts of each scan, which have its number, are the whole of it
abbrev pub ScansAreWhole : List Told → Type 0
ScansAreWhole [] = ⊤
ScansAreWhole (t ∷ ts) = GoesOnBy t ts × ScansAreWhole ts

abbrev pub reported_of : Row → ReportedTx
reported_of row = record { session = (row.tx).session; serial = (row.tx).serial; acts = row.ops }

-- what is told is the report of the history, behind the pairs that the logs found stand for
pub record IsReportOf (before : List (List LogRecord)) (h : History) (r : Reported) : Type 0 where
  pub pairs : r.pairs ≡ stands before
  pub txs : r.txs ≡ map reported_of (rows h)
  pub unsettled : r.unsettled ≡ (counts_in h h).unsettled

-- where nothing is unsettled, and the acknowledged transactions' scans are whole, the report of a legal history is true of the logs found and of the
-- logs left, whatever a crash keeps
abbrev pub ReportsAreTrue : Type 0
ReportsAreTrue =
    (splits : List ℕ) (before : List (List LogRecord)) (h : History) (after : List (List LogRecord)) (choice : ℕ → Bool) (r : Reported)
    → LegalFrom splits before h after → (counts_in h h).unsettled ≡ 0
    → ((t : TxId) → acknowledged_in h t ≡ true → ScansAreWhole (told_in t h))
    → IsReportOf before h r → IsVerdict r (stands (logs_left splits before h after choice)) (Yes (length (rows h)))
