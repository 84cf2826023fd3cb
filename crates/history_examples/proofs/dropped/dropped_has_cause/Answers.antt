use Rattle.history_examples.proofs.Dropping.{dropped_has_cause}
use Rattle.history_examples.proofs.dropped.dropped_has_cause.Goals as goal

pub returns : goal.returns
returns c = dropped_has_cause
