use Rattle.std.proofs.Common.{◌≡◌, ◌++◌, map, drop}
use Rattle.serde_json.specs.View.{view}
use Rattle.report_text.specs.Lines.{acts}
use Rattle.report_text.proofs.lines.row_acts.Given as goal

abbrev pub invariant-loop-one : goal.invariant-loop-one
invariant-loop-one l = map view l.values.items ++ acts (drop l.one-index l.acts) ≡ acts l.acts
