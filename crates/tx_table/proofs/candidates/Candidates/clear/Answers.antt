-- An empty list rises.
use Rattle.std.proofs.Common.{arith}
use Rattle.tx_table.proofs.Keeping.{none_rises}
use Rattle.tx_table.proofs.candidates.Candidates.clear.Goals as goal

pub invariant_of-self : goal.invariant_of-self
invariant_of-self c = (none_rises c.clear.new.self.items c.clear.ensures.items, omega (arith, c.clear.ensures.len), omega (arith, c.clear.ensures.capacity, c.self.invariant.2))
