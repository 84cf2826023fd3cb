use Rattle.std.proofs.Common.{length}
use Rattle.record_stream.proofs.numbers.+goes_on.Given as goal

abbrev pub decreases-goes_on : goal.decreases-goes_on
decreases-goes_on l = length l.bytes.now
