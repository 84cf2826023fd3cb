use Rattle.std.proofs.Common.{length}
use Rattle.report_reading.proofs.Places.{IsAt}
use Rattle.report_reading.proofs.reading.read_report.Given as goal

-- the lines that were read, and those of the rest, are the text's
abbrev pub invariant-loop-rest : goal.invariant-loop-rest
invariant-loop-rest l = IsAt l.bytes l.rest l.number l.told

abbrev pub decreases-loop-rest : goal.decreases-loop-rest
decreases-loop-rest l = length l.rest
