use Rattle.std.proofs.Common.{take}
use Rattle.log_analysis.specs.Facts.{Knows}
use Rattle.log_analysis.proofs.table.LogFacts.of_log.Given as goal

abbrev pub invariant-loop-lsn : goal.invariant-loop-lsn
invariant-loop-lsn l = Knows l.facts (take l.lsn l.records)
