-- What is told of the output.
use Rattle.std.specs.Prelude.{◌≡◌, Bool, true, false, Result, Ok, Err}
use Rattle.report_text.specs.declared.texts.ReportError.{ReportError}
use Rattle.report_text.specs.declared.texts.ReportError.TheVariants.{Memory}

-- what the writer told; but where it told of no fault, and something was left, memory was wanting
abbrev pub WritesAs : Result (Unit {0}) ReportError → Bool → Result (Unit {0}) ReportError → Type 0
WritesAs (Ok u) true result = result ≡ Ok (tt {0})
WritesAs (Ok u) false result = result ≡ Err Memory
WritesAs (Err e) all result = result ≡ Err e
