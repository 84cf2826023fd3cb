-- A script, or a report, that isn't read.
use Rattle.std.proofs.Common.{◌≡◌, refl, sym, subst, ℕ, ◌<◌, List, length, Option, Some, None, IfSome, Result, Err, Vec, Global}
use Rattle.io_model.specs.Streams.{Ends}
use Rattle.io_model.specs.declared.whole.ReadError.{ReadError}
use Rattle.io_model.specs.declared.whole.ReadError.TheVariants as reading
use Rattle.script_lang.specs.Bodies.{Body}
use Rattle.script_lang.specs.Grammar.{IsScript, too_long}
use Rattle.report_reading.specs.Faults.{too_long as no_report}
use Rattle.command_line.specs.Refusals.{of_source}
use Rattle.command_line.specs.declared.status.Status.{Status}
use Rattle.command_line.specs.declared.status.Status.TheVariants.{Script}
use Rattle.clv_commands.specs.Causes.{ScriptFault, ReportFault, CountsSink, CountsDisks}
use Rattle.clv_commands.specs.Reading.{ReadsScript}
use Rattle.clv_commands.specs.Runs.{HasScript}

too_many : (left : Option (List ℕ)) → IfSome left (λ bytes. 16777216 < length bytes) → ScriptFault left (Script 0)
too_many None h = tt
too_many (Some bytes) h = too_long h

pub unread : (e : ReadError) (status : Status) (left : Option (List ℕ)) → status ≡ of_source e → (◌≡◌ {A = Result (Vec ℕ Global) ReadError} (Err e) (Err reading.TooLong) → IfSome left (λ bytes. 16777216 < length bytes)) → ScriptFault left status
unread reading.Failed status left is long = subst (ScriptFault left) (sym is) tt
unread reading.TooLong status left is long = subst (ScriptFault left) (sym is) (too_many left (long refl))
unread reading.Memory status left is long = subst (ScriptFault left) (sym is) tt

no_report_so_long : (left : Option (List ℕ)) → IfSome left (λ bytes. 16777216 < length bytes) → ReportFault left (Script 0)
no_report_so_long None h = tt
no_report_so_long (Some bytes) h = no_report h

pub unread_report : (e : ReadError) (status : Status) (left : Option (List ℕ)) → status ≡ of_source e → (◌≡◌ {A = Result (Vec ℕ Global) ReadError} (Err e) (Err reading.TooLong) → IfSome left (λ bytes. 16777216 < length bytes)) → ReportFault left status
unread_report reading.Failed status left is long = subst (ReportFault left) (sym is) tt
unread_report reading.TooLong status left is long = subst (ReportFault left) (sym is) (no_report_so_long left (long refl))
unread_report reading.Memory status left is long = subst (ReportFault left) (sym is) tt

-- no shards are opened then, nothing is written, and no disk is called
pub record Unopened (left left' : Option (List ℕ)) (faults : ℕ) (counts : ℕ → ℕ) (status : Status) : Type 0 where
  pub read : ReadsScript None status left left'
  pub sink : CountsSink None faults faults status
  pub disks : CountsDisks None counts counts status

told_bytes : (left now : Option (List ℕ)) (bytes : List ℕ) → Ends left now bytes → IfSome left (λ told. told ≡ bytes)
told_bytes None now bytes e = tt
told_bytes (Some told) now bytes e = e.1

-- what was read to the end is the script's text
pub has_script : (left now : Option (List ℕ)) (all bytes : List ℕ) (script : List (List Body)) → Ends left now all → bytes ≡ all → IsScript bytes script → HasScript left script
has_script left now all bytes script ends same is = (all, subst (λ z. IsScript z script) same is, told_bytes left now all ends)
