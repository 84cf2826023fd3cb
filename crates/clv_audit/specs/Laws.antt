-- What holds of every verdict.
use Rattle.std.specs.Prelude.{◌≡◌}
use Rattle.clv_base.specs.Maps.{KeyMap}
use Rattle.report_reading.specs.declared.told.Reported.{Reported}
use Rattle.clv_audit.specs.Verdicts.{Verdict, IsVerdict}

-- there is one verdict
abbrev pub VerdictsAreOne : Type 0
VerdictsAreOne = (r : Reported) (left : KeyMap) (v w : Verdict) → IsVerdict r left v → IsVerdict r left w → v ≡ w
