-- How an audit ends.
use Rattle.std.proofs.Common.{◌≡◌, refl, inl, inr, sym, subst, ℕ, List, Option, Some, None, Result, Ok, Err}
use Rattle.clv_base.specs.declared.logs.LogRecord.{LogRecord}
use Rattle.clv_base.specs.Logs.{stands}
use Rattle.clv_base.specs.LogRules.{apart}
use Rattle.io_model.specs.Sides.{Stories}
use Rattle.cluster_opening.specs.Logs.{LogsOfAll}
use Rattle.cluster_opening.specs.Opening.{Refuses, CountsOpen, IsNotWorn, Stand}
use Rattle.cluster_opening.specs.declared.error.OpenError.{OpenError}
use Rattle.cluster_opening.specs.declared.error.OpenError.TheVariants as opening
use Rattle.report_reading.specs.declared.told.Reported.{Reported}
use Rattle.report_reading.specs.Texts.{IsReport}
use Rattle.report_text.specs.declared.texts.ReportError.{ReportError}
use Rattle.report_text.specs.declared.texts.ReportError.TheVariants as text
use Rattle.report_text.specs.Sinks.{TakesText, Causes}
use Rattle.clv_audit.specs.declared.verdict.Verdict.{Verdict}
use Rattle.clv_audit.specs.Verdicts.{IsVerdict}
use Rattle.clv_audit.specs.declared.verdict.Verdict.TheVariants as verdicts
use Rattle.command_line.specs.Refusals.{of_opening}
use Rattle.command_line.specs.Running.{with_text}
use Rattle.command_line.specs.declared.status.Status.{Status}
use Rattle.command_line.specs.declared.status.Status.TheVariants.{Fine, Usage, Script, ReadFault, WriteFault, DiskFault, NotLog, Memory, Worn, Exists, Apart, WrongTransaction, WrongMap, Unsettled}
use Rattle.clv_commands.specs.Kinds.{IsOfAudit}
use Rattle.clv_commands.specs.Sinks.{TookVerdict}
use Rattle.clv_commands.specs.Causes.{BreaksLogs, BreaksReport, CountsSource, CountsSink, CountsDisks, ReportFault}
use Rattle.clv_commands.specs.Reading.{IsReadAs, ReadsReport}
use Rattle.clv_commands.specs.Audited.{status_by, verdict_text, Writes, IsJudged, IsAudited}
use Rattle.law_base.proofs.Numbers.{below_differs as below}

-- what an ended audit's status tells
pub record Audits (left left' : Option (List ℕ)) (stories : ℕ → Option Stories) (source source' sink sink' : ℕ) (taken taken' : Option (List ℕ)) (counts counts' : ℕ → ℕ) (status : Status) : Type 0 where
  pub kind : IsOfAudit status
  pub audited : IsAudited left stories sink sink' taken taken' status
  pub took : TookVerdict status taken taken'
  pub read : ReadsReport status left left'
  pub logs : BreaksLogs status None stories
  pub report : BreaksReport status left
  pub of_source : CountsSource source source' status
  pub of_sink : CountsSink None sink sink' status
  pub disks : CountsDisks None counts counts' status

-- the verdict on a report that was read, by logs that were
pub judged :
    (left left' : Option (List ℕ)) (r : Reported) (stories : ℕ → Option Stories) (splits : List ℕ) (logs : List (List LogRecord)) (v : Verdict) → IsReadAs left left' r → LogsOfAll splits logs stories → apart logs ≡ None → IsVerdict r (stands logs) v
    → IsJudged left stories v
judged None left' r stories splits logs v read held agree is = record { splits = splits; logs = logs; held = held; agree = agree; verdict = tt }
judged (Some bytes) left' r stories splits logs v (told, ends, report) held agree is =
    record { splits = splits; logs = logs; held = held; agree = agree; verdict = (r, subst (λ (b : List ℕ). IsReport b r) (sym ends.1) report, is) }

-- ---- the report was read

module _ (left left' : Option (List ℕ)) (r : Reported) (stories : ℕ → Option Stories) (source source' : ℕ) (counts counts' : ℕ → ℕ) (read : IsReadAs left left' r) (counted : source' ≡ source) where
  module _ (sink sink' : ℕ) (taken taken' : Option (List ℕ)) (stand : Stand counts counts') where
    by_verdict : (v : Verdict) (written : Result (Unit {0}) ReportError) → IsJudged left stories v → TakesText taken taken' (verdict_text v) written → Causes sink sink' written
        → Audits left left' stories source source' sink sink' taken taken' counts counts' (with_text (status_by v) written)
    by_verdict (verdicts.Yes count) (Ok a) j takes cause = record { kind = tt; logs = tt; report = tt; disks = stand; of_source = counted; took = tt; read = (r, read); audited = (count, j, takes); of_sink = cause }
    by_verdict (verdicts.Yes count) (Err text.Failed) j takes cause = record { kind = tt; logs = tt; report = tt; disks = stand; of_source = counted; took = tt; read = (r, read); audited = (count, j, takes); of_sink = cause.0 }
    by_verdict (verdicts.Yes count) (Err text.Memory) j takes cause = record { kind = tt; logs = tt; report = tt; disks = stand; of_source = counted; audited = tt; took = takes; read = tt; of_sink = cause }
    by_verdict (verdicts.Wrong place) (Ok a) j takes cause = record { kind = tt; logs = tt; report = tt; disks = stand; of_source = counted; took = tt; read = (r, read); audited = (j, inl takes); of_sink = tt }
    by_verdict (verdicts.Wrong place) (Err text.Failed) j takes cause = record { kind = tt; logs = tt; report = tt; disks = stand; of_source = counted; took = tt; read = (r, read); audited = (j, inr (cause.0, takes)); of_sink = tt }
    by_verdict (verdicts.Wrong place) (Err text.Memory) j takes cause = record { kind = tt; logs = tt; report = tt; disks = stand; of_source = counted; audited = tt; took = takes; read = tt; of_sink = cause }
    by_verdict (verdicts.WrongMap key) (Ok a) j takes cause = record { kind = tt; logs = tt; report = tt; disks = stand; of_source = counted; took = tt; read = (r, read); audited = (j, inl takes); of_sink = tt }
    by_verdict (verdicts.WrongMap key) (Err text.Failed) j takes cause = record { kind = tt; logs = tt; report = tt; disks = stand; of_source = counted; took = tt; read = (r, read); audited = (j, inr (cause.0, takes)); of_sink = tt }
    by_verdict (verdicts.WrongMap key) (Err text.Memory) j takes cause = record { kind = tt; logs = tt; report = tt; disks = stand; of_source = counted; audited = tt; took = takes; read = tt; of_sink = cause }
    by_verdict (verdicts.Open count) (Ok a) j takes cause = record { kind = tt; logs = tt; report = tt; disks = stand; of_source = counted; took = tt; read = (r, read); audited = (j, inl takes); of_sink = tt }
    by_verdict (verdicts.Open count) (Err text.Failed) j takes cause = record { kind = tt; logs = tt; report = tt; disks = stand; of_source = counted; took = tt; read = (r, read); audited = (j, inr (cause.0, takes)); of_sink = tt }
    by_verdict (verdicts.Open count) (Err text.Memory) j takes cause = record { kind = tt; logs = tt; report = tt; disks = stand; of_source = counted; audited = tt; took = takes; read = tt; of_sink = cause }

    pub by_writing : (v : Verdict) (status : Status) → IsJudged left stories v → Writes sink sink' taken taken' v status → Audits left left' stories source source' sink sink' taken taken' counts counts' status
    by_writing v status j (written, takes, cause, is) = subst (Audits left left' stories source source' sink sink' taken taken' counts counts') (sym is) (by_verdict v written j takes cause)

  -- there was no memory for the verdict
  pub by_memory : (sink : ℕ) (taken : Option (List ℕ)) → Stand counts counts' → Audits left left' stories source source' sink sink taken taken counts counts' Memory
  by_memory sink taken stand = record { kind = tt; audited = tt; took = refl; read = tt; logs = tt; report = tt; of_source = counted; of_sink = refl; disks = stand }

  -- the logs were refused
  module _ (sink : ℕ) (taken : Option (List ℕ)) where
    by_opening : (e : OpenError) → IsNotWorn e → Refuses stories e → CountsOpen counts counts' e → Audits left left' stories source source' sink sink taken taken counts counts' (of_opening e)
    by_opening (opening.Failed shard) unworn refuses opens = record { kind = tt; audited = tt; took = refl; read = (r, read); logs = refuses; report = tt; of_source = counted; of_sink = refl; disks = (opens.0, λ n low. opens.2 n (below n shard low)) }
    by_opening (opening.NotLog shard at) unworn refuses opens = record { kind = tt; audited = tt; took = refl; read = (r, read); logs = refuses; report = tt; of_source = counted; of_sink = refl; disks = opens }
    by_opening (opening.Apart tx) unworn refuses opens = record { kind = tt; audited = tt; took = refl; read = (r, read); logs = refuses; report = tt; of_source = counted; of_sink = refl; disks = opens }
    by_opening (opening.Worn at) unworn refuses opens = absurd unworn
    by_opening opening.Memory unworn refuses opens = record { kind = tt; audited = tt; took = refl; read = tt; logs = tt; report = tt; of_source = counted; of_sink = refl; disks = opens }

    pub by_refusal : (e : OpenError) (status : Status) → status ≡ of_opening e → IsNotWorn e → Refuses stories e → CountsOpen counts counts' e → Audits left left' stories source source' sink sink taken taken counts counts' status
    by_refusal e status is unworn refuses opens = subst (Audits left left' stories source source' sink sink taken taken counts counts') (sym is) (by_opening e unworn refuses opens)

-- ---- it wasn't

pub by_reading : (left left' : Option (List ℕ)) (stories : ℕ → Option Stories) (source source' sink : ℕ) (taken : Option (List ℕ)) (counts : ℕ → ℕ) (status : Status) → ReportFault left status → CountsSource source source' status
    → Audits left left' stories source source' sink sink taken taken counts counts status
by_reading left left' stories source source' sink taken counts Fine fault cause = absurd fault
by_reading left left' stories source source' sink taken counts Usage fault cause = absurd fault
by_reading left left' stories source source' sink taken counts WriteFault fault cause = absurd fault
by_reading left left' stories source source' sink taken counts (DiskFault shard) fault cause = absurd fault
by_reading left left' stories source source' sink taken counts (NotLog shard at) fault cause = absurd fault
by_reading left left' stories source source' sink taken counts (Worn at) fault cause = absurd fault
by_reading left left' stories source source' sink taken counts (Exists shard len) fault cause = absurd fault
by_reading left left' stories source source' sink taken counts (Apart tx) fault cause = absurd fault
by_reading left left' stories source source' sink taken counts (WrongTransaction place) fault cause = absurd fault
by_reading left left' stories source source' sink taken counts (WrongMap key) fault cause = absurd fault
by_reading left left' stories source source' sink taken counts (Unsettled count) fault cause = absurd fault
by_reading left left' stories source source' sink taken counts (Script line) fault cause = record { kind = tt; audited = tt; took = refl; read = tt; logs = tt; report = fault; of_source = cause; of_sink = refl; disks = λ n. refl }
by_reading left left' stories source source' sink taken counts ReadFault fault cause = record { kind = tt; audited = tt; took = refl; read = tt; logs = tt; report = tt; of_source = cause; of_sink = refl; disks = λ n. refl }
by_reading left left' stories source source' sink taken counts Memory fault cause = record { kind = tt; audited = tt; took = refl; read = tt; logs = tt; report = tt; of_source = cause; of_sink = refl; disks = λ n. refl }
