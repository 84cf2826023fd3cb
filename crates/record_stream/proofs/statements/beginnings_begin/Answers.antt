use Rattle.record_stream.proofs.Laws.Coming.{begins_front}
use Rattle.record_stream.proofs.statements.beginnings_begin.Goals as goal

pub returns : goal.returns
returns c = λ bytes more b. begins_front bytes more b
