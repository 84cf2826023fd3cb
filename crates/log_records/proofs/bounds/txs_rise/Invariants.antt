use Rattle.std.proofs.Common.{◌≡◌, length}
use Rattle.clv_base.specs.FileRules.{txs_rise}
use Rattle.log_records.proofs.bounds.txs_rise.Given as goal

abbrev pub invariant-loop-rest : goal.invariant-loop-rest
invariant-loop-rest l = txs_rise l.rest ≡ txs_rise l.txs

abbrev pub decreases-loop-rest : goal.decreases-loop-rest
decreases-loop-rest l = length l.rest
