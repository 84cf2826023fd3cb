use Rattle.std.proofs.Common.{length}
use Rattle.clv_base.proofs.splits.+first_not_rising.Given as goal

abbrev pub decreases-first_not_rising : goal.decreases-first_not_rising
decreases-first_not_rising l = length l.rest.now
