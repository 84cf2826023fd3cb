use Rattle.std.proofs.Common.{◌≡◌, [], drop}
use Rattle.log_analysis.specs.Writers.{count_in, writers_by}
use Rattle.log_analysis.proofs.writers.writers_of.Given as goal

abbrev pub invariant-loop-r : goal.invariant-loop-r
invariant-loop-r l = writers_by (count_in l.facts) (drop l.r-index l.records) l.set ≡ writers_by (count_in l.facts) l.records []
