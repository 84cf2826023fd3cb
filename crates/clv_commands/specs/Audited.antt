-- What an audit says, by its status.
use Rattle.std.specs.Prelude.{◌≡◌, ℕ, List, ◌∷◌, [], ◌++◌, take, codes, decimal, Option, None, IfSome, Result}
use Rattle.clv_base.specs.declared.logs.LogRecord.{LogRecord}
use Rattle.clv_base.specs.Logs.{stands}
use Rattle.clv_base.specs.LogRules.{apart}
use Rattle.io_model.specs.Sides.{Stories}
use Rattle.io_model.specs.Streams.{Grows}
use Rattle.cluster_opening.specs.Logs.{LogsOfAll}
use Rattle.clv_audit.specs.declared.verdict.Verdict.{Verdict}
use Rattle.clv_audit.specs.Verdicts.{IsVerdictOf}
use Rattle.clv_audit.specs.declared.verdict.Verdict.TheVariants as verdicts
use Rattle.command_line.specs.declared.commands.Command.{Command}
use Rattle.command_line.specs.declared.commands.Command.TheVariants.{Audit}
use Rattle.command_line.specs.declared.status.Status.{Status}
use Rattle.command_line.specs.declared.status.Status.TheVariants.{Fine, WriteFault, WrongTransaction, WrongMap, Unsettled}
use Rattle.command_line.specs.Running.{with_text}
use Rattle.command_line.specs.Texts.{text_of}
use Rattle.report_text.specs.declared.texts.ReportError.{ReportError}
use Rattle.report_text.specs.Sinks.{TakesText, Causes}
use Rattle.clv_commands.specs.Sinks.{TookText}

-- the status of a verdict
abbrev pub status_by : Verdict → Status
status_by (verdicts.Wrong place) = WrongTransaction place
status_by (verdicts.Open count) = Unsettled count
status_by (verdicts.WrongMap key) = WrongMap key
status_by (verdicts.Yes count) = Fine

-- its line: that of the status, but for a report that is true
abbrev pub verdict_text : Verdict → List ℕ
verdict_text (verdicts.Wrong place) = text_of (WrongTransaction place)
verdict_text (verdicts.Open count) = text_of (Unsettled count)
verdict_text (verdicts.WrongMap key) = text_of (WrongMap key)
verdict_text (verdicts.Yes count) = codes "yes " ++ decimal count ++ 10 ∷ []

-- a verdict's line was written, or wasn't, and the command ends with this status: want of memory comes in the place of any other, and a fault of the sink in that of
-- a fine one alone
abbrev pub Writes : ℕ → ℕ → Option (List ℕ) → Option (List ℕ) → Verdict → Status → Type 0
Writes before now old new v status =
    (written : Result (Unit {0}) ReportError) × TakesText old new (verdict_text v) written × Causes before now written × (status ≡ with_text (status_by v) written)

-- this is the verdict on the bytes of the source, by logs that the disks hold and that agree
pub record IsJudged (left : Option (List ℕ)) (stories : ℕ → Option Stories) (v : Verdict) : Type 0 where
  pub splits : List ℕ
  pub logs : List (List LogRecord)
  pub held : LogsOfAll splits logs stories
  pub agree : apart logs ≡ None
  pub verdict : IfSome left (λ bytes. IsVerdictOf bytes (stands logs) v)

-- fine: the report is true, and the sink took its line, or a front of it where the sink failed; else the status is that of the verdict, and the sink took
-- its line, or where it failed a front of it
abbrev pub IsAudited : Option (List ℕ) → (ℕ → Option Stories) → ℕ → ℕ → Option (List ℕ) → Option (List ℕ) → Status → Type 0
IsAudited left stories before now old new Fine = (count : ℕ) × IsJudged left stories (verdicts.Yes count) × Grows old new (verdict_text (verdicts.Yes count))
IsAudited left stories before now old new WriteFault =
    (count : ℕ) × IsJudged left stories (verdicts.Yes count) × ((n : ℕ) × Grows old new (take n (verdict_text (verdicts.Yes count))))
IsAudited left stories before now old new (WrongTransaction place) =
    IsJudged left stories (verdicts.Wrong place) × TookText (verdict_text (verdicts.Wrong place)) before now old new
IsAudited left stories before now old new (WrongMap key) = IsJudged left stories (verdicts.WrongMap key) × TookText (verdict_text (verdicts.WrongMap key)) before now old new
IsAudited left stories before now old new (Unsettled count) = IsJudged left stories (verdicts.Open count) × TookText (verdict_text (verdicts.Open count)) before now old new
IsAudited left stories before now old new status = Unit {0}

abbrev pub AuditedBy : Command → Option (List ℕ) → (ℕ → Option Stories) → ℕ → ℕ → Option (List ℕ) → Option (List ℕ) → Status → Type 0
AuditedBy Audit left stories before now old new status = IsAudited left stories before now old new status
AuditedBy command left stories before now old new status = Unit {0}
