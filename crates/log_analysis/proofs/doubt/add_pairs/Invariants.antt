use Rattle.std.proofs.Common.{◌≡◌, ◌++◌, drop}
use Rattle.log_analysis.specs.Doubt.{pairs_by}
use Rattle.log_analysis.proofs.doubt.add_pairs.Given as goal

abbrev pub invariant-loop-p : goal.invariant-loop-p
invariant-loop-p l = l.pairs.items ++ pairs_by l.facts l.tx (drop l.p-index l.listed) ≡ l.fn.pairs.items ++ pairs_by l.facts l.tx l.listed
