-- The report of a run whose sessions all went through.
use Rattle.std.specs.Prelude.{◌≡◌, ◌≤◌, ℕ, Bool, true, List, [], ◌++◌, Option, map, length}
use Rattle.std.specs.List.{list_all}
use Rattle.clv_base.specs.declared.names.TxId.{TxId}
use Rattle.clv_base.specs.declared.logs.LogRecord.{LogRecord}
use Rattle.clv_base.specs.FileRules.{may_open}
use Rattle.clv_base.specs.History.{acknowledged_in}
use Rattle.clv_base.specs.Logs.{stands}
use Rattle.io_model.specs.Sides.{Stories}
use Rattle.history_replay.specs.Entries.{Kept}
use Rattle.cluster_opening.specs.Logs.{LogsOfAll}
use Rattle.script_lang.specs.Bodies.{Body}
use Rattle.script_lang.specs.Grammar.{IsScript, most_bytes}
use Rattle.session_books.specs.Told.{told_in}
use Rattle.session_books.specs.Books.{rows}
use Rattle.session_books.specs.Counts.{counts_in}
use Rattle.report_text.specs.Report.{report, pairs_text}
use Rattle.report_reading.specs.declared.told.Reported.{Reported}
use Rattle.report_reading.specs.Told.{can_be_told}
use Rattle.report_reading.specs.Texts.{IsReport, fits_counts, text_of}
use Rattle.clv_audit.specs.declared.verdict.Verdict.TheVariants.{Yes}
use Rattle.clv_audit.specs.Verdicts.{IsVerdict}
use Rattle.audit_laws.specs.Reports.{ScansAreWhole, IsReportOf, reported_of}
use Rattle.cluster_runs.specs.Histories.{entries, crash_logs}
use Rattle.cluster_runs.specs.Following.{AreFoundAgain}
use Rattle.cluster_runs.specs.PromisedSessions.{Went}
use Rattle.cluster_runs.specs.Promises.{RunPromised}
use Rattle.cluster_runs.specs.Replays.{HaveGone}

-- what the report of a run tells, behind the pairs that the logs found stand for
abbrev pub told_by : Kept → Reported
told_by kept =
    record {
      pairs = stands kept.found;
      txs = map reported_of (rows (entries kept));
      unsettled = (counts_in (entries kept) (entries kept)).unsettled;
      aborted = (counts_in (entries kept) (entries kept)).aborted;
    }

-- the parts of each scan of an acknowledged transaction are the whole of it
abbrev pub ScansStandWhole : Type 0
ScansStandWhole =
    (splits : List ℕ) (before now : ℕ → Option Stories) (counts counts_now : ℕ → ℕ) (most : Option ℕ) (script : List (List Body)) (went : ℕ → Went) (kept : Kept)
    → may_open splits kept.found ≡ true → RunPromised splits before now counts counts_now most script went kept → HaveGone script went
    → (t : TxId) → acknowledged_in (entries kept) t ≡ true → ScansAreWhole (told_in t (entries kept))

-- who made a request was told what became of it
abbrev pub NothingIsUnsettled : Type 0
NothingIsUnsettled =
    (splits : List ℕ) (before now : ℕ → Option Stories) (counts counts_now : ℕ → ℕ) (most : Option ℕ) (script : List (List Body)) (went : ℕ → Went) (kept : Kept)
    → RunPromised splits before now counts counts_now most script went kept → HaveGone script went
    → (counts_in (entries kept) (entries kept)).unsettled ≡ 0

-- so what tells the pairs that the logs found stand for, and behind them the history, is true of what the logs left stand for, whatever a crash keeps
abbrev pub ReportsOfRunsAreTrue : Type 0
ReportsOfRunsAreTrue =
    (splits : List ℕ) (before now : ℕ → Option Stories) (counts counts_now : ℕ → ℕ) (most : Option ℕ) (script : List (List Body)) (went : ℕ → Went) (kept : Kept)
    (choice : ℕ → Bool) (r : Reported)
    → may_open splits kept.found ≡ true → (p : RunPromised splits before now counts counts_now most script went kept) → HaveGone script went
    → IsReportOf kept.found (entries kept) r
    → IsVerdict r (stands (crash_logs splits kept (p.keeps).left choice)) (Yes (length (rows (entries kept))))

-- ---- what was shown before it

-- who opens what a run without sessions left, as a `show` leaves it, finds logs that stand for the same pairs as those that it found
abbrev pub ShownIsFound : Type 0
ShownIsFound =
    (splits splits' : List ℕ) (before now next : ℕ → Option Stories) (counts counts_now : ℕ → ℕ) (most : Option ℕ) (went : ℕ → Went) (kept : Kept) (found : List (List LogRecord))
    → may_open splits kept.found ≡ true → RunPromised splits before now counts counts_now most [] went kept → AreFoundAgain splits now next → LogsOfAll splits' found next
    → stands found ≡ stands kept.found

-- ---- its text

-- the lines of the pairs that the logs found stand for, and behind them the report
abbrev pub whole_text : Kept → List ℕ
whole_text kept = pairs_text (stands kept.found) ++ report (entries kept)

-- as many transactions are counted as acknowledged as the report has lines of
abbrev pub AreAllCounted : Kept → Type 0
AreAllCounted kept = (counts_in (entries kept) (entries kept)).acknowledged ≡ length (rows (entries kept))

-- then that is the text of what it tells
abbrev pub ReportsAreTexts : Type 0
ReportsAreTexts = (kept : Kept) → AreAllCounted kept → whole_text kept ≡ text_of (told_by kept)

-- each acknowledged transaction is one that a report can tell of, the counts are within their bounds, and as many are counted as there are lines
pub record CanBeTold (kept : Kept) : Type 0 where
  pub each : list_all can_be_told (map reported_of (rows (entries kept))) ≡ true
  pub counts : fits_counts (counts_in (entries kept) (entries kept)) ≡ true
  pub counted : AreAllCounted kept

-- so it is where the logs found are those of disks, and the sessions those of a script's text: what lines ask for is within its bounds, and so are answers, by the logs
abbrev pub RunsCanBeTold : Type 0
RunsCanBeTold =
    (splits : List ℕ) (before now : ℕ → Option Stories) (counts counts_now : ℕ → ℕ) (most : Option ℕ) (script : List (List Body)) (went : ℕ → Went) (kept : Kept) (bytes : List ℕ)
    → LogsOfAll splits kept.found before → may_open splits kept.found ≡ true → RunPromised splits before now counts counts_now most script went kept → HaveGone script went
    → IsScript bytes script → CanBeTold kept

-- then such a text that isn't too long is read back as that
abbrev pub TextsAreReports : Type 0
TextsAreReports =
    (splits : List ℕ) (before now : ℕ → Option Stories) (counts counts_now : ℕ → ℕ) (most : Option ℕ) (script : List (List Body)) (went : ℕ → Went) (kept : Kept) (bytes : List ℕ)
    → LogsOfAll splits kept.found before → may_open splits kept.found ≡ true → RunPromised splits before now counts counts_now most script went kept → HaveGone script went
    → IsScript bytes script → length (whole_text kept) ≤ most_bytes → IsReport (whole_text kept) (told_by kept)
