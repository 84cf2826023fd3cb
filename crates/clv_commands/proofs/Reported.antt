-- What the sink took of a report.
use Rattle.std.proofs.Common.{◌≡◌, refl, inl, inr, ℕ, true, false, List, Option, Some, Result, Ok, Err}
use Rattle.std.proofs.lemmas.Bool.{both_ways}
use Rattle.history_replay.specs.Entries.{Kept}
use Rattle.report_text.specs.declared.texts.ReportError.{ReportError}
use Rattle.report_text.specs.declared.texts.ReportError.TheVariants as text
use Rattle.report_text.specs.Sinks.{TakesText, Causes}
use Rattle.command_line.specs.Running.{with_text}
use Rattle.command_line.specs.Texts.{writes_report}
use Rattle.command_line.specs.declared.status.Status.{Status}
use Rattle.command_line.specs.declared.status.Status.TheVariants.{Fine, Usage, Script, ReadFault, WriteFault, DiskFault, NotLog, Memory, Worn, Exists, Apart, WrongTransaction, WrongMap, Unsettled}
use Rattle.clv_commands.specs.Kinds.{IsOfShards}
use Rattle.clv_commands.specs.Sinks.{TookReport}
use Rattle.clv_commands.specs.Causes.{CountsSink}

-- at a status at which it is written
pub reported : (running : Status) (written : Result (Unit {0}) ReportError) (report : List ℕ) (before now : ℕ) (old new : Option (List ℕ)) → IsOfShards running → writes_report running ≡ true → TakesText old new report written → Causes before now written
    → TookReport report (with_text running written) before now old new
reported Fine (Ok a) report before now old new of writes took cause = took
reported Fine (Err text.Failed) report before now old new of writes took cause = took
reported Fine (Err text.Memory) report before now old new of writes took cause = took
reported (DiskFault shard) (Ok a) report before now old new of writes took cause = inl took
reported (DiskFault shard) (Err text.Failed) report before now old new of writes took cause = inr (cause.0, took)
reported (DiskFault shard) (Err text.Memory) report before now old new of writes took cause = took
reported (Worn at) (Ok a) report before now old new of writes took cause = inl took
reported (Worn at) (Err text.Failed) report before now old new of writes took cause = inr (cause.0, took)
reported (Worn at) (Err text.Memory) report before now old new of writes took cause = took
reported Memory written report before now old new of writes took cause = absurd (both_ways false refl writes)
reported Usage written report before now old new of writes took cause = absurd of
reported (Script line) written report before now old new of writes took cause = absurd of
reported ReadFault written report before now old new of writes took cause = absurd of
reported WriteFault written report before now old new of writes took cause = absurd of
reported (NotLog shard at) written report before now old new of writes took cause = absurd of
reported (Exists shard len) written report before now old new of writes took cause = absurd of
reported (Apart tx) written report before now old new of writes took cause = absurd of
reported (WrongTransaction place) written report before now old new of writes took cause = absurd of
reported (WrongMap key) written report before now old new of writes took cause = absurd of
reported (Unsettled count) written report before now old new of writes took cause = absurd of

pub reported_so : (running : Status) (written : Result (Unit {0}) ReportError) (kept : Kept) (before now : ℕ) → IsOfShards running → writes_report running ≡ true → Causes before now written → CountsSink (Some kept) before now (with_text running written)
reported_so Fine (Ok a) kept before now of writes cause = cause
reported_so Fine (Err text.Failed) kept before now of writes cause = cause.0
reported_so Fine (Err text.Memory) kept before now of writes cause = cause
reported_so (DiskFault shard) (Ok a) kept before now of writes cause = tt
reported_so (DiskFault shard) (Err text.Failed) kept before now of writes cause = tt
reported_so (DiskFault shard) (Err text.Memory) kept before now of writes cause = cause
reported_so (Worn at) (Ok a) kept before now of writes cause = tt
reported_so (Worn at) (Err text.Failed) kept before now of writes cause = tt
reported_so (Worn at) (Err text.Memory) kept before now of writes cause = cause
reported_so Memory written kept before now of writes cause = absurd (both_ways false refl writes)
reported_so Usage written kept before now of writes cause = absurd of
reported_so (Script line) written kept before now of writes cause = absurd of
reported_so ReadFault written kept before now of writes cause = absurd of
reported_so WriteFault written kept before now of writes cause = absurd of
reported_so (NotLog shard at) written kept before now of writes cause = absurd of
reported_so (Exists shard len) written kept before now of writes cause = absurd of
reported_so (Apart tx) written kept before now of writes cause = absurd of
reported_so (WrongTransaction place) written kept before now of writes cause = absurd of
reported_so (WrongMap key) written kept before now of writes cause = absurd of
reported_so (Unsettled count) written kept before now of writes cause = absurd of

-- at any other, which is want of memory, it isn't
pub unreported : (running : Status) (report : List ℕ) (kept : Kept) (faults : ℕ) (old : Option (List ℕ)) → IsOfShards running → writes_report running ≡ false → TookReport report running faults faults old old × CountsSink (Some kept) faults faults running
unreported Memory report kept faults old of writes = (refl, refl)
unreported Fine report kept faults old of writes = absurd (both_ways true writes refl)
unreported (DiskFault shard) report kept faults old of writes = absurd (both_ways true writes refl)
unreported (Worn at) report kept faults old of writes = absurd (both_ways true writes refl)
unreported Usage report kept faults old of writes = absurd of
unreported (Script line) report kept faults old of writes = absurd of
unreported ReadFault report kept faults old of writes = absurd of
unreported WriteFault report kept faults old of writes = absurd of
unreported (NotLog shard at) report kept faults old of writes = absurd of
unreported (Exists shard len) report kept faults old of writes = absurd of
unreported (Apart tx) report kept faults old of writes = absurd of
unreported (WrongTransaction place) report kept faults old of writes = absurd of
unreported (WrongMap key) report kept faults old of writes = absurd of
unreported (Unsettled count) report kept faults old of writes = absurd of
