use Rattle.std.proofs.Common.{◌≡◌, ◌++◌, drop}
use Rattle.report_text.specs.Report.{pairs_text}
use Rattle.report_text.proofs.pairs.pairs_text.Given as goal

abbrev pub invariant-loop-entry : goal.invariant-loop-entry
invariant-loop-entry l = l.text.items ++ pairs_text (drop l.entry-index l.pairs) ≡ pairs_text l.pairs
