use Rattle.std.proofs.Common.{◌≡◌, [], drop}
use Rattle.log_analysis.specs.Doubt.{doubted_from}
use Rattle.log_analysis.proofs.doubt.doubted.Given as goal

abbrev pub invariant-loop-r : goal.invariant-loop-r
invariant-loop-r l = doubted_from l.facts l.shard (drop l.r-index l.records) l.so_far ≡ doubted_from l.facts l.shard l.records []
