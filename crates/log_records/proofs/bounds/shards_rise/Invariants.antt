use Rattle.std.proofs.Common.{◌≡◌, length}
use Rattle.clv_base.specs.FileRules.{numbers_rise}
use Rattle.log_records.proofs.bounds.shards_rise.Given as goal

abbrev pub invariant-loop-rest : goal.invariant-loop-rest
invariant-loop-rest l = numbers_rise l.rest ≡ numbers_rise l.shards

abbrev pub decreases-loop-rest : goal.decreases-loop-rest
decreases-loop-rest l = length l.rest
