use Rattle.std.proofs.Common.{length}
use Rattle.interleaving_core.proofs.making.+same_touched.Given as goal

abbrev pub decreases-same_touched : goal.decreases-same_touched
decreases-same_touched l = length l.touched.now
