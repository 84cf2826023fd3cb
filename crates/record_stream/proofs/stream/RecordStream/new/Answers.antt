use Rattle.record_stream.proofs.Laws.Coming.{nothing_is_unfinished}
use Rattle.record_stream.proofs.stream.RecordStream.new.Goals as goal

pub invariant_of-result : goal.invariant_of-result
invariant_of-result c = rw c.new.ensures.items nothing_is_unfinished
