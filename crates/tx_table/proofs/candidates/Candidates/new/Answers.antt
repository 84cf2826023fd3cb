use Rattle.std.proofs.Common.{arith}
use Rattle.tx_table.proofs.Keeping.{none_rises}
use Rattle.tx_table.proofs.candidates.Candidates.new.Goals as goal

pub invariant_of-result : goal.invariant_of-result
invariant_of-result c = let e = c.new.ensures in (none_rises c.new.result.items e.items, omega (arith, e.len), omega arith)
