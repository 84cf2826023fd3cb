use Rattle.std.proofs.Common.{◌≡◌, ◌++◌, drop}
use Rattle.log_analysis.specs.Doubt.{pairs_from}
use Rattle.log_analysis.proofs.doubt.pairs_of.Given as goal

abbrev pub invariant-loop-tx : goal.invariant-loop-tx
invariant-loop-tx l = l.pairs.items ++ pairs_from l.facts l.records (drop l.tx-index l.txs) ≡ pairs_from l.facts l.records l.txs
