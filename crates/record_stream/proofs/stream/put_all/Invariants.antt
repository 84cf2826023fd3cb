use Rattle.std.proofs.Common.{length}
use Rattle.record_stream.proofs.Laws.Coming.{SoFar}
use Rattle.record_stream.proofs.stream.put_all.Given as goal

abbrev pub invariant-loop-record : goal.invariant-loop-record
invariant-loop-record l = SoFar l.fn.records.items l.records.items l.rest l.bytes

abbrev pub decreases-loop-record : goal.decreases-loop-record
decreases-loop-record l = length l.rest
