use Rattle.std.proofs.Common.{◌≡◌, max, drop}
use Rattle.clv_base.specs.Restarts.{greatest_run}
use Rattle.cluster_opening.proofs.judging.greatest.Given as goal

abbrev pub invariant-loop-record : goal.invariant-loop-record
invariant-loop-record l = max l.most (greatest_run (drop l.record-index l.log)) ≡ greatest_run l.log
